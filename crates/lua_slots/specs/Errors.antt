-- HOW A MOVE ENDS: with values or a jump for the frames, and errors with their messages (manual 2.7, and 5.1 under `error`).
-- A message costs its bytes, as in the meaning.
use Rattle.std.specs.Prelude.{ℕ, Bool, true, false, List, ◌++◌, length, Option, Some, None, Ok, Err}
use Rattle.lua_meaning.specs.PageRunOutcome.{Goes, Jumps}
use Rattle.lua_meaning.specs.LuaHeapProc.{Proc}
use Rattle.lua_meaning.specs.LuaHeapValue.{Value, Text}
use Rattle.lua_meaning.specs.Scope.{Bytes, Place as TextPlace}
use Rattle.lua_meaning.specs.Charges.{node_charge}
use Rattle.lua_meaning.specs.Acts.{Jump, Raised}
use Rattle.lua_meaning.specs.Messages.{place_text, nth_level, place_at}
use Rattle.lua_meaning.specs.Arguments.{Plain, PlainEnd, Gives as PlainGives, Fails as PlainFails, Argument}
use Rattle.lua_slots.specs.Slots.{Slots, levels_at, with_heap}
use Rattle.lua_slots.specs.Points.{SFrame, Gives, Move, Costs, Marks, Now}

-- a node of the tree begins
abbrev pub node : Move → Move
node mv = Costs node_charge (Marks mv)

-- one move or the other
abbrev pub choose : Bool → Move → Move → Move
choose true a b = a
choose false a b = b

abbrev pub gives : List Value → List SFrame → Slots → Move
gives vs fs s = Now (Gives (Goes vs) fs) s

abbrev pub jumps : Jump → List SFrame → Slots → Move
jumps j fs s = Now (Gives (Jumps j) fs) s

-- A MESSAGE at a place, or at none
abbrev pub raises : Option TextPlace → Bytes → List SFrame → Slots → Move
raises None text fs s = jumps (Raised (Text text)) fs s
raises (Some p) text fs s = Costs (length (place_text p ++ text)) (jumps (Raised (Text (place_text p ++ text))) fs s)

-- an error with its value: only a string gets the place
abbrev pub raises_value : Option TextPlace → Value → List SFrame → Slots → Move
raises_value p (Text t) fs s = raises p t fs s
raises_value p v fs s = jumps (Raised v) fs s

-- the message of something that failed, at level 1 of this line
abbrev pub fails : Option ℕ → Bytes → List SFrame → Slots → Move
fails line text fs s = raises (nth_level (levels_at s.functions line) 1) text fs s

-- one that quotes a text of the call costs its bytes at no place too
abbrev pub raises_quote : Option TextPlace → Bytes → List SFrame → Slots → Move
raises_quote None text fs s = Costs (length text) (jumps (Raised (Text text)) fs s)
raises_quote (Some p) text fs s = raises (Some p) text fs s

abbrev pub fails_quoting : Option ℕ → Bytes → List SFrame → Slots → Move
fails_quoting line text fs s = raises_quote (nth_level (levels_at s.functions line) 1) text fs s

-- how a function of the library ends that was called from this line
abbrev pub ends : PlainEnd → Option ℕ → List SFrame → Slots → Move
ends (PlainGives vs) line fs s = gives vs fs s
ends (PlainFails v level) line fs s = raises_value (place_at (levels_at s.functions line) level) v fs s

-- what a function does that calls back nobody
abbrev pub plain : Plain Proc → Option ℕ → List SFrame → Slots → Move
plain p line fs s = Costs p.charge (ends p.end line fs (with_heap p.heap s))

-- what is done with an argument, or its message
abbrev pub with_argument : {X : Type 0} → Argument X → Option ℕ → List SFrame → Slots → (X → Move) → Move
with_argument (Ok x) line fs s go = go x
with_argument (Err message) line fs s go = fails line message fs s
