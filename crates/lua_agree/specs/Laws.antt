-- THE LAWS of the simulation, over any world and any code of its modules.
use Rattle.std.specs.Prelude.{List}
use Rattle.lua_heap.specs.Related.{Map}
use Rattle.lua_slots.specs.LuaMeaningActs.{State, LuaRun}
use Rattle.lua_slots.specs.LuaMeaningWorld.{World}
use Rattle.lua_slots.specs.Code.{CWorld}
use Rattle.lua_slots.specs.IsCode.{Agrees}
use Rattle.lua_slots.specs.Slots.{Slots}
use Rattle.lua_slots.specs.Points.{Point}
use Rattle.lua_slots.specs.Moves.{moves}
use Rattle.lua_slots.specs.Enact.{Funds, enact}
use Rattle.lua_agree.specs.Variables.{Var}
use Rattle.lua_agree.specs.Agree.{SamePoint, Base, Rel}
use Rattle.lua_agree.specs.Follows.{Follows}
use Rattle.lua_agree.specs.Met.{comes_to, Met}

-- Wherever a machine stands where a run stands, its next move follows the run.
abbrev pub GoesOn : Type 0
GoesOn = (world : World) (code : CWorld) → Agrees world code → (B : Base) (m : Map) (vars : List Var) (p : LuaRun) (h : State) (point : Point) (s : Slots) → Rel code B m vars h s
    → SamePoint code m vars s.functions p point → Follows world code B p h (moves code point s)

-- Wherever a machine stands where a run stands, its next move is met by the run.
abbrev pub NextIsMet : Type 0
NextIsMet = (world : World) (code : CWorld) → Agrees world code → (B : Base) (m : Map) (vars : List Var) (p : LuaRun) (h : State) (point : Point) (s : Slots) (f : Funds) → Rel code B m vars h s
    → SamePoint code m vars s.functions p point → Met world code B (comes_to world p h f) (enact (moves code point s) f)
