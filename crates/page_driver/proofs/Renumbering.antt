-- A page in progress stays so where another run is at work in its store.
use Rattle.std.proofs.Common.{ℕ, List, [], ◌∷◌, sym, subst}
use Rattle.std.specs.List.{AllByRecursion}
use Rattle.page_meaning.specs.WkBaseDeclaredLeftLeft.{Left}
use Rattle.lua_code.specs.LuaMeaningWorld.{Modules}
use Rattle.page_tasks.specs.LuaStoreSeen.{StoreView}
use Rattle.page_tasks.proofs.LuaStoreLists.{all-to}
use Rattle.page_meaning.specs.Tasks.{Task as PlainTask}
use Rattle.page_tasks.specs.PagePointsPlaces.{Place}
use Rattle.page_tasks.specs.declared.task.Task.{Task}
use Rattle.page_tasks.specs.declared.task.Halt.{Halt}
use Rattle.page_tasks.specs.declared.task.Halt.TheVariants as halt
use Rattle.page_tasks.specs.declared.task.Halted.{Halted}
use Rattle.page_tasks.specs.Tasks.{HasHalted}
use Rattle.page_tasks.proofs.Renumbered.{task_renumbered, waits_renumbered}
use Rattle.page_tasks.specs.PageGroundDeclaredNumbersNumbers.{Numbers}
use Rattle.page_tasks.specs.PageGroundNumbered.{IsNumbered, Renumbers}
use Rattle.page_tasks.specs.PageGroundGround.{Ground}
use Rattle.page_driver.specs.declared.tower.Tower.{Tower}
use Rattle.page_driver.specs.declared.tower.Next.{Next}
use Rattle.page_driver.specs.Driven.{IsBelow, AllWait, IsHalted, Driven, InProgress, MovesOn}

module _ (g : Ground) (s : StoreView) (n : ℕ) (left : Left) (k : ℕ) (tower : Tower) (ns : Numbers) where
  abbrev t : StoreView
  t = record s { env = n }

  abbrev after : Tower
  after = record tower { numbers = ns }

  below_renumbered : (ts : List Task) → AllByRecursion (IsBelow g s) ts → AllByRecursion (IsBelow g t) ts
  below_renumbered ts all = all-to (IsBelow g s) (IsBelow g t) (λ x b. record { of = task_renumbered s n x b.of; ground = b.ground; waits = b.waits }) ts all

  all_wait : (modules : Modules) (ts : List Task) (ps : List Place) → AllWait g modules s ts ps → AllWait g modules t ts ps
  all_wait modules [] [] w = tt
  all_wait modules [] (p ∷ ps) w = absurd w
  all_wait modules (x ∷ ts) [] w = absurd w
  all_wait modules (x ∷ ts) (p ∷ ps) w = (waits_renumbered s n g modules x p w.0, all_wait modules ts ps w.1)

  halted : (modules : Modules) (x : Task) (p : Place) (h : Halt) → HasHalted g modules s left x p h → HasHalted g modules t left x p h
  halted modules x p (halt.Comes r) h = h
  halted modules x p (halt.Invokes job) h = (h.0, waits_renumbered s n g modules x p h.1)
  halted modules x p (halt.Asks q) h = (h.0, waits_renumbered s n g modules x p h.1)

  is_halted : (modules : Modules) (root : PlainTask) (first : Left) (k₀ : ℕ) (x : Halted) → IsHalted g modules root first k₀ s left k tower x → IsHalted g modules root first k₀ t left k after x
  is_halted modules root first k₀ x h =
      let st = h.standing in
      record {
        top = h.top;
        below = h.below;
        now = h.now;
        standing = record { going = st.going; others = all_wait modules tower.stack h.below st.others; apart = st.apart; keeps = st.keeps; charges = st.charges; begun = st.begun };
        halted = halted modules x.task h.top x.halt h.halted;
      }

  driven_after : (root : PlainTask) (first : Left) (k₀ : ℕ) (x : Halted) → (IsNumbered s tower.numbers → IsNumbered t ns) → Driven g root first k₀ s left k tower x → Driven g root first k₀ t left k after x
  driven_after root first k₀ x numbered d =
      let a = d.accounts in
      record {
        of = task_renumbered s n x.task d.of;
        ground = d.ground;
        halts = d.halts;
        numbered = numbered d.numbered;
        accounts = record { below = below_renumbered tower.stack a.below; keep = a.keep; calls_are = a.calls_are; depth_is = a.depth_is; templates_are = a.templates_are; rises = a.rises; paid = a.paid };
        placed = λ modules agree. is_halted modules root first k₀ x (d.placed modules agree);
      }

module _ (g : Ground) (s : StoreView) (left : Left) (k : ℕ) (tower : Tower) (s' : StoreView) (ns : Numbers) (r : Renumbers s tower.numbers s' ns) where
  pub driven_renumbered : (root : PlainTask) (first : Left) (k₀ : ℕ) (x : Halted) → Driven g root first k₀ s left k tower x → Driven g root first k₀ s' left k (record tower { numbers = ns }) x
  driven_renumbered root first k₀ x d =
      subst (λ (u : StoreView). Driven g root first k₀ u left k (record tower { numbers = ns }) x) (sym r.store)
      (driven_after g s r.env left k tower ns root first k₀ x (λ h. subst (λ (u : StoreView). IsNumbered u ns) r.store (r.numbered h)) d)

  pub progress_renumbered : (x : Halted) → InProgress g s left k tower x → InProgress g s' left k (record tower { numbers = ns }) x
  progress_renumbered x p = record { root = p.root; first = p.first; start = p.start; fits = p.fits; driven = driven_renumbered p.root p.first p.start x p.driven }

  pub moves_renumbered : (x : Halted) (s₁ : StoreView) (left₁ : Left) (k₁ : ℕ) (tower₁ : Tower) (next : Next) → MovesOn g s' left k (record tower { numbers = ns }) x s₁ left₁ k₁ tower₁ next → MovesOn g s left k tower x s₁ left₁ k₁ tower₁ next
  moves_renumbered x s₁ left₁ k₁ tower₁ next m root first k₀ fits d = m root first k₀ fits (driven_renumbered root first k₀ x d)
