-- WHERE A MOVE LEAVES A RUN: whatever replies are still to come, the run from here comes to what it comes to from the point where the
-- machine then stands; or it is spent as the machine is.
use Rattle.std.specs.Prelude.{◌≡◌, List}
use Rattle.lua_slots.specs.PageRunDeclaredWhichWhich.{Which}
use Rattle.lua_slots.specs.PageRunOutcome.{Outcome}
use Rattle.lua_slots.specs.PageRunState as run
use Rattle.lua_slots.specs.PageRunState.{Reply, Event, Spent, Moment}
use Rattle.lua_slots.specs.PageRunPerform.{perform, wait}
use Rattle.lua_library_agree.specs.MwFrameDeclaredQuestionAsk.{Ask}
use Rattle.lua_heap.specs.Value.{Value}
use Rattle.lua_heap.specs.Related.{Map}
use Rattle.lua_slots.specs.LuaMeaningQuestions.{Answer}
use Rattle.lua_slots.specs.LuaMeaningActs.{Jump, State, LuaRun}
use Rattle.lua_slots.specs.LuaMeaningWorld.{World}
use Rattle.lua_library_agree.specs.LuaMeaningThings.{meaning_of}
use Rattle.lua_slots.specs.Code.{CWorld}
use Rattle.lua_slots.specs.Slots.{Slots}
use Rattle.lua_slots.specs.Points.{Point}
use Rattle.lua_slots.specs.Enact.{Funds, Enacted, Stands, Short}
use Rattle.lua_agree.specs.Variables.{Var}
use Rattle.lua_agree.specs.Agree.{SamePoint, Base, Rel}

-- the state of a run with these funds, and its moment
abbrev pub state_of : State → Funds → List (Reply Answer) → run.State State Answer
state_of h f replies = record { heap = h; left = f.left; in_progress = f.in_progress; tally = f.tally; replies = replies }

abbrev pub moment_with : State → Funds → Moment State
moment_with h f = record { heap = h; left = f.left; in_progress = f.in_progress; tally = f.tally }

-- what a run comes to from there, after these replies
abbrev pub comes_to : World → LuaRun → State → Funds → List (Reply Answer) → Event State Ask (Outcome (List Value) Jump)
comes_to world p h f replies = perform (meaning_of world) wait p (state_of h f replies)

module _ (world : World) (code : CWorld) (B : Base) where
  pub data Met (past : List (Reply Answer) → Event State Ask (Outcome (List Value) Jump)) : Enacted → Type 0 where
    goes_to : (m : Map) (vars : List Var) (p : LuaRun) (h : State) (point : Point) (s : Slots) (f : Funds) → Rel code B m vars h s → SamePoint code m vars s.functions p point
        → ((replies : List (Reply Answer)) → past replies ≡ comes_to world p h f replies) → Met past (Stands point s f)
    is_spent : (h : State) (w : Which) (f : Funds) → ((replies : List (Reply Answer)) → past replies ≡ Spent w (moment_with h f)) → Met past (Short w f)
