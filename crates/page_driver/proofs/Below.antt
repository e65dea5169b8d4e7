-- Tasks that wait while another one goes on.
use Rattle.std.proofs.Common.{List, [], ◌∷◌}
use Rattle.std.specs.Prelude.{map}
use Rattle.std.specs.List.{AllByRecursion}
use Rattle.page_tasks.specs.LuaHeapReach.{Set}
use Rattle.lua_code.specs.LuaMeaningWorld.{Modules}
use Rattle.page_tasks.specs.LuaPointsFamilies.{AreApart}
use Rattle.page_tasks.specs.LuaStoreSeen.{StoreView}
use Rattle.page_tasks.specs.LuaStoreParts.{IsLater}
use Rattle.page_tasks.proofs.LuaStoreLists.{all-to}
use Rattle.page_tasks.specs.PagePointsPlaces.{Place}
use Rattle.page_tasks.proofs.Waiting.{task_later, waits_later}
use Rattle.page_tasks.specs.PagePointsApart.{LeavesAlone}
use Rattle.page_tasks.specs.declared.task.Task.{Task}
use Rattle.page_tasks.specs.PageGroundGround.{Ground}
use Rattle.page_driver.specs.Driven.{IsBelow, set_of, AllWait}

pub below_later : (g : Ground) (s t : StoreView) → IsLater s t → (ts : List Task) → AllByRecursion (IsBelow g s) ts → AllByRecursion (IsBelow g t) ts
below_later g s t l ts all = all-to (IsBelow g s) (IsBelow g t) (λ x b. record { of = task_later s t l x b.of; ground = b.ground; waits = b.waits }) ts all

module _ (g : Ground) (modules : Modules) (s t : StoreView) (l : IsLater s t) where
  -- all that wait, while one goes on that is apart from them
  pub all_wait_later : (S S' : Set) → LeavesAlone S s.heap t.heap S' → (ts : List Task) (ps : List Place) → AllByRecursion (IsBelow g s) ts → AreApart s.heap (S ∷ map set_of ps) → AllWait g modules s ts ps → AllWait g modules t ts ps
  all_wait_later S S' alone [] [] of a w = tt
  all_wait_later S S' alone [] (p ∷ ps) of a w = absurd w
  all_wait_later S S' alone (x ∷ ts) [] of a w = absurd w
  all_wait_later S S' alone (x ∷ ts) (p ∷ ps) of a w = (
    waits_later g modules s t l x p of.0.of (alone.alone p.within (a.0, (a.1.0, tt), (a.2.0, tt, tt))) w.0,
    all_wait_later S S' alone ts ps of.1 (a.0, a.1.1, a.2.2) w.1,
  )
