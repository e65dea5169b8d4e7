-- STATEMENTS (manual 2.4). Each begins with its node, and gives no values.
use Rattle.std.specs.Prelude.{List, [], ◌∷◌, ◌++◌, length, Option, Some, None}
use Rattle.lua_meaning.specs.LuaHeapValue.{Value, Text, Table}
use Rattle.lua_meaning.specs.Charges.{closure_charge}
use Rattle.lua_meaning.specs.Values.{first, rest}
use Rattle.lua_meaning.specs.Acts.{Broke, Raised}
use Rattle.lua_meaning.specs.Messages.{no_target}
use Rattle.lua_slots.specs.Code.{Constants, CExps, CTarget, PlaceC, GlobalTargetC, EntryC, RefusedC, CArms, NoArmC, ArmC}
use Rattle.lua_slots.specs.Code.{CStat, AssignC, CallStatC, DoC, WhileC, RepeatC, IfC, IfElseC, CountC, CountByC, EachC, ReturnC, BreakC, CBlock, EndC, DeclareC, LocalFunctionC, ThenC}
use Rattle.lua_slots.specs.Slots.{Slots, write_place, with_function_named}
use Rattle.lua_slots.specs.Points.{STarget, PlaceS, GlobalS, EntryS, RepeatTurnS, SFrame, TargetKey, AssignNow, SetsNext, DeclareNow, StatsNext, BranchNext, BlockEnd, WhileTest, CountFrom, EachValues, ReturnNow, Evals, Lists, Finds, Runs, Starts, Move, Costs, Now}
use Rattle.lua_slots.specs.Errors.{node, gives, jumps}
use Rattle.lua_slots.specs.Index.{set_index}

-- ASSIGNMENT (2.4.3): the tables and keys of the targets, of which an index is a node; then the values; and then each target, from
-- the last to the first
abbrev pub finds : Constants → List CTarget → List STarget → CExps → List SFrame → Slots → Move
finds constants [] before values fs s = Now (Lists values [] (AssignNow before ∷ fs)) s
finds constants (PlaceC p ∷ more) before values fs s = Now (Finds more (before ++ PlaceS p ∷ []) values fs) s
finds constants (GlobalTargetC x line ∷ more) before values fs s = Now (Finds more (before ++ GlobalS (constants x) line ∷ []) values fs) s
finds constants (EntryC of key line ∷ more) before values fs s = node (Now (Evals of (TargetKey key line more before values ∷ fs)) s)
finds constants (RefusedC ∷ more) before values fs s = jumps (Raised (Text no_target)) fs s

-- each target with its value
abbrev pub with_values : List STarget → List Value → List (STarget × Value)
with_values [] vs = []
with_values (t ∷ ts) vs = (t, first vs) ∷ with_values ts (rest vs)

abbrev pub sets_one : STarget → Value → List SFrame → Slots → Move
sets_one (PlaceS p) v fs s = gives [] fs (write_place s p v)
sets_one (GlobalS x line) v fs s = set_index (Table s.globals) (Text x) v (Some line) fs s
sets_one (EntryS of key line) v fs s = set_index of key v (Some line) fs s

abbrev pub sets : List (STarget × Value) → List SFrame → Slots → Move
sets [] fs s = gives [] fs s
sets (p ∷ ps) fs s = sets_one p.0 p.1 (SetsNext ps ∷ fs) s

-- A BLOCK OF ITS OWN (2.4.1, 2.4.4): at its end its registers are gone
abbrev pub within : CBlock → List SFrame → Slots → Move
within b fs s = Now (Runs b (BlockEnd (length s.regs) ∷ fs)) s

-- CONDITIONS (2.4.4): the first branch whose test is true, else the last block, if there is one
abbrev pub otherwise : Option CBlock → List SFrame → Slots → Move
otherwise None fs s = gives [] fs s
otherwise (Some b) fs s = within b fs s

abbrev pub branches : CArms → Option CBlock → List SFrame → Slots → Move
branches NoArmC other fs s = otherwise other fs s
branches (ArmC test b more) other fs s = Now (Evals test (BranchNext b more other ∷ fs)) s

abbrev pub executes : CStat → List SFrame → Slots → Move
executes (AssignC targets values) fs s = node (Now (Finds targets [] values fs) s)
executes (CallStatC e) fs s = node (Now (Evals e fs) s)
executes (DoC b) fs s = node (within b fs s)
executes (WhileC test b) fs s = node (Now (Evals test (WhileTest test b ∷ fs)) s)
executes (RepeatC b test) fs s = node (Now (Starts (RepeatTurnS b test) fs) s)
executes (IfC arms) fs s = node (branches arms None fs s)
executes (IfElseC arms b) fs s = node (branches arms (Some b) fs s)
executes (CountC boxed from to b line) fs s = node (Now (Evals from (CountFrom boxed to None b line ∷ fs)) s)
executes (CountByC boxed from to by b line) fs s = node (Now (Evals from (CountFrom boxed to (Some by) b line ∷ fs)) s)
executes (EachC flags values b line) fs s = node (Now (Lists values [] (EachValues flags b line ∷ fs)) s)
executes (ReturnC values) fs s = node (Now (Lists values [] (ReturnNow ∷ fs)) s)
executes BreakC fs s = node (jumps Broke fs s)

-- BLOCKS (2.4.1): a statement, and those that follow it; new local variables are seen by these (2.4.7)
abbrev pub runs : CBlock → List SFrame → Slots → Move
runs EndC fs s = gives [] fs s
runs (DeclareC flags values more) fs s = node (Now (Lists values [] (DeclareNow flags more ∷ fs)) s)
runs (LocalFunctionC boxed index places more) fs s = node (Costs closure_charge (Now (Runs more fs) (with_function_named boxed index places s)))
runs (ThenC c more) fs s = executes c (StatsNext more ∷ fs) s
