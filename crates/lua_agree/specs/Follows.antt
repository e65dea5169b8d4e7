-- A MOVE FOLLOWS A RUN: from a state on, the run over names has the events of the move, one by one, and then stands where the
-- machine stands. That it sees and changes its state, and what it notes, are events of the run alone.
use Rattle.std.specs.Prelude.{ℕ, List}
use Rattle.lua_library_agree.specs.PageRunRun.{Takes, Counts, Notes, Sees, Changes, Calls, Leaves, Begins}
use Rattle.lua_heap.specs.Value.{Value}
use Rattle.lua_heap.specs.Related.{Map}
use Rattle.lua_slots.specs.LuaMeaningActs.{State, Thing, LuaRun}
use Rattle.lua_slots.specs.LuaMeaningWorld.{World}
use Rattle.lua_library_agree.specs.LuaMeaningThings.{meaning_of}
use Rattle.lua_slots.specs.Code.{CWorld}
use Rattle.lua_slots.specs.Slots.{Slots}
use Rattle.lua_slots.specs.Points.{Point, Move, Costs, Marks, Enters, Exits, Now}
use Rattle.lua_agree.specs.Variables.{Var}
use Rattle.lua_agree.specs.Rests.{After}
use Rattle.lua_agree.specs.Agree.{SamePoint, Base, Rel}

module _ (world : World) (code : CWorld) (B : Base) where
  pub data Follows : LuaRun → State → Move → Type 0 where
    takes : (n : ℕ) (p : LuaRun) (h : State) (mv : Move) → Follows p h mv → Follows (Takes n p) h (Costs n mv)
    counts : (p : LuaRun) (h : State) (mv : Move) → Follows p h mv → Follows (Counts p) h (Marks mv)
    calls : (p : LuaRun) (h : State) (mv : Move) → Follows p h mv → Follows (Calls p) h (Enters mv)
    leaves : (p : LuaRun) (h : State) (mv : Move) → Follows p h mv → Follows (Leaves p) h (Exits mv)
    notes : (source name : List ℕ) (p : LuaRun) (h : State) (mv : Move) → Follows p h mv → Follows (Notes source name p) h mv
    sees : (f : State → LuaRun) (h : State) (mv : Move) → Follows (f h) h mv → Follows (Sees f) h mv
    changes : (i : State) (p : LuaRun) (h : State) (mv : Move) → Follows p i mv → Follows (Changes i p) h mv
    begins : (t : Thing) (k : After (List Value)) (h : State) (mv : Move) → Follows (meaning_of world t k) h mv → Follows (Begins t k) h (Costs 1 mv)
    now : (m : Map) (vars : List Var) (p : LuaRun) (h : State) (point : Point) (s : Slots) → Rel code B m vars h s → SamePoint code m vars s.functions p point → Follows p h (Now point s)
