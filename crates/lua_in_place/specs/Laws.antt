-- WHAT IS READ IN PLACE is what the moves of a machine come to.
use Rattle.std.specs.Prelude.{◌≡◌, ◌≤◌, ℕ, ◌+◌, ◌-◌, List, [], ◌∷◌, ◌++◌, Some}
use Rattle.lua_goes.specs.PageRunOutcome.{Goes}
use Rattle.lua_goes.specs.LuaHeapValue.{Value}
use Rattle.lua_goes.specs.LuaSlotsCode.{Constants, CExp, CExps, CWorld}
use Rattle.lua_goes.specs.LuaSlotsSlots.{Slots}
use Rattle.lua_goes.specs.LuaSlotsPoints.{SFrame, Gives, Evals, Lists}
use Rattle.lua_goes.specs.LuaSlotsCalls.{constants_of}
use Rattle.lua_goes.specs.LuaSlotsEnact.{Funds}
use Rattle.lua_goes.specs.Going.{Reaches}
use Rattle.lua_in_place.specs.InPlace.{in_place, all_in_place}

-- so many nodes are evaluated: a step is taken for each, and each is counted
abbrev pub after_nodes : ℕ → Funds → Funds
after_nodes n f = record f { left = record f.left { steps = f.left.steps - n }; tally = record f.tally { nodes = f.tally.nodes + n } }

-- Where a step for each node is left, a machine that is to evaluate the expression comes to where its value is given to the frames that
-- wait, whichever they are, and holds what it held.
abbrev pub ReadInPlace : Type 0
ReadInPlace = (world : CWorld) (e : CExp) (s : Slots) (v : Value) (n : ℕ) → in_place (constants_of world s) e s ≡ Some (v, n) → (fs : List SFrame) (f : Funds) → n ≤ f.left.steps
    → Reaches world (Evals e fs) s f (Gives (Goes (v ∷ [])) fs) s (after_nodes n f)

-- The same of a list, whose values are given behind those that stand before.
abbrev pub ListReadInPlace : Type 0
ListReadInPlace = (world : CWorld) (es : CExps) (s : Slots) (vs : List Value) (n : ℕ) → all_in_place (constants_of world s) es s ≡ Some (vs, n) → (before : List Value) (fs : List SFrame) (f : Funds) → n ≤ f.left.steps
    → Reaches world (Lists es before fs) s f (Gives (Goes (before ++ vs)) fs) s (after_nodes n f)

-- An expression has a node, so steps fall.
abbrev pub NodesAreSome : Type 0
NodesAreSome = (constants : Constants) (e : CExp) (s : Slots) (v : Value) (n : ℕ) → in_place constants e s ≡ Some (v, n) → 1 ≤ n
