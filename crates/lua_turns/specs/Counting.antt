-- THE NEXT TURN of a counting loop, if it has one.
use Rattle.std.specs.Prelude.{ℤ, Bool, List, [], Option, Some, None}
use Rattle.lua_code.specs.LuaSlotsCode.{CBlock}
use Rattle.lua_operators.specs.LuaSlotsErrors.{gives}
use Rattle.lua_operators.specs.LuaSlotsPoints.{CountTurnS, SFrame, Starts, Move, Now}
use Rattle.lua_operators.specs.LuaSlotsSlots.{Slots}

abbrev pub next_move : Bool → Option ℤ → ℤ → ℤ → CBlock → List SFrame → Slots → Move
next_move boxed (Some index) limit step b fs s = Now (Starts (CountTurnS boxed index limit step b) fs) s
next_move boxed None limit step b fs s = gives [] fs s
