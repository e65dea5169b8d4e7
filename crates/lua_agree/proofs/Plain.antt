-- How functions of the library end, and those that call back nobody: each does to the machine's heap what it does to the run's.
use Rattle.std.proofs.Common.{◌≡◌, ℕ, List, Option, sym, subst}
use Rattle.lua_heap.specs.Proc.{Proc}
use Rattle.lua_heap.specs.Value.{Value}
use Rattle.lua_heap.specs.Related.{Map, Same, nil, truth, number, text, table, closure, builtin, markup}
use Rattle.lua_slots.specs.LuaMeaningScope.{Place as TextPlace, Function, Levels}
use Rattle.lua_slots.specs.LuaMeaningWorld.{World}
use Rattle.lua_slots.specs.LuaMeaningActs.{State}
use Rattle.lua_slots.specs.LuaMeaningMessages.{place_at, raise_at}
use Rattle.lua_slots.specs.LuaMeaningArguments.{Plain, PlainEnd, plain_act, end_act}
use Rattle.lua_library_agree.specs.Same.{SameEnd, both_give, both_fail, SamePlain}
use Rattle.lua_slots.specs.Code.{CWorld}
use Rattle.lua_slots.specs.Slots.{Slots, levels_at}
use Rattle.lua_slots.specs.Points.{SFrame, Costs}
use Rattle.lua_slots.specs.Errors as machine
use Rattle.lua_agree.specs.Variables.{Var}
use Rattle.lua_agree.specs.Values.{raised}
use Rattle.lua_agree.specs.Functions.{SameFunction}
use Rattle.lua_agree.specs.Rests.{After, SameRest}
use Rattle.lua_agree.specs.Agree.{Base, Rel}
use Rattle.lua_agree.specs.Follows.{Follows, takes, sees, changes}
use Rattle.lua_agree.proofs.Carries.{rest-grows}
use Rattle.lua_agree.proofs.Parts.{rest-jumps, rel-moved, values-on, passes-on, raises}

module _ (world : World) (code : CWorld) (B : Base) {m : Map} {vars : List Var} {h : State} {s : Slots} (r : Rel code B m vars h s) where
  raises-value : {k : After (List Value)} {fs : List SFrame} {v w : Value} → SameRest code m vars s.functions k fs → (p : Option TextPlace) → Same m v w → Follows world code B (raise_at p v k) h (machine.raises_value p w fs s)
  raises-value g p (text t) = raises world code B r (rest-jumps code g) p t
  raises-value g p nil = passes-on world code B r g (raised _ _ nil)
  raises-value g p (truth b) = passes-on world code B r g (raised _ _ (truth b))
  raises-value g p (number n) = passes-on world code B r g (raised _ _ (number n))
  raises-value g p (table a b e) = passes-on world code B r g (raised _ _ (table a b e))
  raises-value g p (closure a b e) = passes-on world code B r g (raised _ _ (closure a b e))
  raises-value g p (builtin b) = passes-on world code B r g (raised _ _ (builtin b))
  raises-value g p (markup a b e) = passes-on world code B r g (raised _ _ (markup a b e))

  module _ {k : After (List Value)} {fs : List SFrame} (g : SameRest code m vars s.functions k fs) (ls : Levels) (line : Option ℕ) (l : ls ≡ levels_at s.functions line) where
    pub ends-on : {a b : PlainEnd} → SameEnd m a b → Follows world code B (end_act a ls k) h (machine.ends b line fs s)
    ends-on (both_give vs ws e) = values-on world code B r g e
    ends-on (both_fail v w level e) = subst (λ (z : Levels). Follows world code B (raise_at (place_at z level) v k) h (machine.raises_value (place_at (levels_at s.functions line) level) w fs s)) (sym l) (raises-value g _ e)

module _ (world : World) (code : CWorld) (B : Base) {m : Map} {vars : List Var} {h : State} {s : Slots} (r : Rel code B m vars h s) {k : After (List Value)} {fs : List SFrame} (g : SameRest code m vars s.functions k fs) (ls : Levels) (line : Option ℕ) (l : ls ≡ levels_at s.functions line) where
  pub plain-on : (a : Plain Function) (b : Plain Proc) → SamePlain (SameFunction code) m h.heap s.heap a b → Follows world code B (plain_act a ls k) h (machine.plain b line fs s)
  plain-on a b e =
      subst (λ (n : ℕ). Follows world code B (plain_act a ls k) h (Costs n (machine.ends b.end line fs (record s { heap = b.heap })))) e.charge
      (takes _ _ _ _ (sees _ _ _ (changes _ _ _ _
      (ends-on world code B (rel-moved code r e.moved) (rest-grows code e.moved.later.grows g) ls line l e.end))))
