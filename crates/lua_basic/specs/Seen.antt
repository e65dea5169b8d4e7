-- WHAT THE ANSWERS OF FUNCTIONS ARE SEEN AS, where texts are names of a store; and when an answer is the meaning's own.
use Rattle.std.specs.Prelude.{◌≡◌, ℕ, ◌-◌, ◌<◌, ◌≤◌, List, map, Result, Ok, Err}
use Rattle.std.specs.List.{AllByRecursion}
use Rattle.lua_number.specs.WkBaseDeclaredLeftLeft.{Left}
use Rattle.lua_store.specs.LuaHeapProc.{Proc}
use Rattle.lua_meaning.specs.LuaHeapValue as kind
use Rattle.lua_meaning.specs.Arguments.{Plain, PlainEnd, Gives, Fails, Argument, with_argument}
use Rattle.lua_store.specs.declared.value.Value.{Value}
use Rattle.lua_store.specs.Seen.{StoreView, seen}
use Rattle.lua_store.specs.Parts.{IsOf}
use Rattle.lua_basic.specs.declared.stop.Stop.{Stop}
use Rattle.lua_basic.specs.declared.stop.Stop.TheVariants as stop

abbrev pub values_seen : List (List ℕ) → List Value → List kind.Value
values_seen texts vs = map (seen texts) vs

-- all of them name only what the store has
abbrev pub AllOf : StoreView → List Value → Type 0
AllOf s vs = AllByRecursion (IsOf s) vs

-- the meaning's answer with this charge and end, and the objects of a store
abbrev pub ends : ℕ → StoreView → PlainEnd → Plain Proc
ends charge s end = record { charge = charge; heap = s.heap; end = end }

-- AN ANSWER FOR NOTHING is the meaning's answer p, with the objects that the store has then. Want of memory says nothing.
abbrev pub Stops : Plain Proc → StoreView → Stop → Type 0
Stops p t (stop.Raised v level) = p ≡ ends 0 t (Fails (seen t.texts v) level)
Stops p t stop.Spent = ⊥
Stops p t stop.NoMemory = Unit {0}

abbrev pub Free : Plain Proc → StoreView → Result (List Value) Stop → Type 0
Free p t (Ok vs) = p ≡ ends 0 t (Gives (values_seen t.texts vs))
Free p t (Err e) = Stops p t e

-- AN ANSWER THAT IS PAID FOR, with the steps left before and after it: the charge is covered, and it is the meaning's answer p; or
-- it is not covered, no step stays, and the store is as it was.
abbrev pub less_steps : Left → ℕ → Left
less_steps left n = record left { steps = left.steps - n }

pub record Covers (p : Plain Proc) (l : Left) (t : StoreView) (m : Left) (end : PlainEnd) : Type 0 where
  pub covered : p.charge ≤ l.steps
  pub answer : p ≡ ends p.charge t end
  pub rest : m ≡ less_steps l p.charge

pub record IsShort (p : Plain Proc) (s : StoreView) (l : Left) (t : StoreView) (m : Left) : Type 0 where
  pub short : l.steps < p.charge
  pub same : t ≡ s
  pub rest : m ≡ record l { steps = 0 }

abbrev pub Paid : Plain Proc → StoreView → Left → StoreView → Left → Result (List Value) Stop → Type 0
Paid p s l t m (Ok vs) = Covers p l t m (Gives (values_seen t.texts vs))
Paid p s l t m (Err (stop.Raised v level)) = Covers p l t m (Fails (seen t.texts v) level)
Paid p s l t m (Err stop.Spent) = IsShort p s l t m
Paid p s l t m (Err stop.NoMemory) = Unit {0}

-- what an answer holds is of the store
abbrev pub StopOf : StoreView → Stop → Type 0
StopOf s (stop.Raised v level) = IsOf s v
StopOf s stop.Spent = Unit {0}
StopOf s stop.NoMemory = Unit {0}

abbrev pub AnswerOf : StoreView → Result (List Value) Stop → Type 0
AnswerOf s (Ok vs) = AllOf s vs
AnswerOf s (Err e) = StopOf s e

-- an argument that is none ends its function, whatever comes behind it
abbrev pub Refuses : {Y : Type 0} → Argument Y → StoreView → StoreView → Stop → Type 0
Refuses {Y} a s t e = (next : Y → Plain Proc) → Stops (with_argument s.heap a next) t e
