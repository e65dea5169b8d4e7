-- WHAT A MACHINE NAMES: the objects of the store that its point, its frames, its registers, its functions in progress and what is kept
-- of the run name. Code names none: its constants are no objects.
use Rattle.std.specs.Prelude.{List, [], ◌∷◌, ◌++◌, map}
use Rattle.std.specs.List.{flat_map}
use Rattle.lua_slots.specs.PageRunOutcome.{Outcome, Goes, Jumps}
use Rattle.lua_heap.specs.Value.{Value}
use Rattle.lua_heap.specs.Heap.{Ref, tab, cel}
use Rattle.lua_heap.specs.Reach.{value_names, values_names}
use Rattle.lua_heap.specs.Proc.{proc_names}
use Rattle.lua_slots.specs.LuaMeaningActs.{Jump, Returned, Broke, Raised, Progress, Running, Finished, Frame}
use Rattle.lua_slots.specs.LuaMeaningTitled.{Titled}
use Rattle.lua_library_agree.specs.LuaMeaningGsub.{replacement_value}
use Rattle.lua_slots.specs.LuaMeaningPending.{Pending, XpcallWaits, GsubWaits}
use Rattle.lua_slots.specs.Slots.{Slot, Plain, Boxed, Activation, Slots}
use Rattle.lua_slots.specs.Points.{STarget, EntryS, SThing, WhileTurnS, RepeatTurnS, CountTurnS, EachTurnS, BodyS, LibraryS, IndexLinkS, SetLinkS, CallLinkS}
use Rattle.lua_slots.specs.Points.{SFrame, IndexNow, OperateNow, CallNow, MethodNow, MoreNext, ItemNow, PairNext, PairNow, FieldsNext, ItemsNext, TargetKey, TargetNow, AssignNow, SetsNext, CountTo, CountBy, EachNext, EachEnd, Waits, ModuleFound, FunctionFound, TextNow}
use Rattle.lua_slots.specs.Points.{Point, Gives, Evals, Lists, Finds, Sets, Runs, Starts, Texts, Asking, Works}

-- a register; a function in progress, with the cells that it captured and the values of `...`
abbrev pub slot_names : Slot → List Ref
slot_names (Plain v) = value_names v
slot_names (Boxed c) = cel c ∷ []

abbrev pub activation_names : Activation → List Ref
activation_names a = map cel a.cells ++ values_names a.dots

abbrev pub functions_names : List Activation → List Ref
functions_names fns = flat_map activation_names fns

-- targets that are found, and what is to be set
abbrev pub target_names : STarget → List Ref
target_names (EntryS of key line) = value_names of ++ value_names key
target_names _ = []

abbrev pub targets_names : List STarget → List Ref
targets_names ts = flat_map target_names ts

abbrev pub set_names : STarget × Value → List Ref
set_names p = target_names p.0 ++ value_names p.1

abbrev pub pending_names : Pending → List Ref
pending_names (XpcallWaits h) = value_names h
pending_names (GsubWaits w) = value_names (replacement_value w.job.by)
pending_names _ = []

-- FRAMES
abbrev pub frame_names : SFrame → List Ref
frame_names (IndexNow of line) = value_names of
frame_names (OperateNow o a line) = value_names a
frame_names (CallNow f line) = value_names f
frame_names (MethodNow object args line) = value_names object
frame_names (MoreNext es before) = values_names before
frame_names (ItemNow t n fields line) = tab t ∷ []
frame_names (PairNext t n e fields line) = tab t ∷ []
frame_names (PairNow t n key fields line) = tab t ∷ value_names key
frame_names (FieldsNext t n fields line) = tab t ∷ []
frame_names (ItemsNext t n items line) = tab t ∷ values_names items
frame_names (TargetKey key line more before values) = targets_names before
frame_names (TargetNow of line more before values) = value_names of ++ targets_names before
frame_names (AssignNow targets) = targets_names targets
frame_names (SetsNext pairs) = flat_map set_names pairs
frame_names (CountTo boxed from by body line) = value_names from
frame_names (CountBy boxed from to body line) = value_names from ++ value_names to
frame_names (EachNext flags f state body line) = value_names f ++ value_names state
frame_names (EachEnd d flags f state before body line) = value_names f ++ (value_names state ++ value_names before)
frame_names (Waits p line) = pending_names p
frame_names (ModuleFound function frame) = value_names frame
frame_names (FunctionFound function frame) = value_names frame
frame_names (TextNow values before) = values_names values
frame_names _ = []

abbrev pub frames_names : List SFrame → List Ref
frames_names fs = flat_map frame_names fs

-- THINGS AND POINTS
abbrev pub thing_names : SThing → List Ref
thing_names (WhileTurnS test body) = []
thing_names (RepeatTurnS body test) = []
thing_names (CountTurnS boxed index limit step body) = []
thing_names (EachTurnS flags f state results body line) = value_names f ++ (value_names state ++ values_names results)
thing_names (BodyS f args line) = proc_names f ++ values_names args
thing_names (LibraryS which args line) = values_names args
thing_names (IndexLinkS object h key line) = value_names object ++ (value_names h ++ value_names key)
thing_names (SetLinkS object h key value line) = value_names object ++ (value_names h ++ (value_names key ++ value_names value))
thing_names (CallLinkS h args line) = value_names h ++ values_names args

abbrev pub outcome_names : Outcome (List Value) Jump → List Ref
outcome_names (Goes vs) = values_names vs
outcome_names (Jumps (Returned vs)) = values_names vs
outcome_names (Jumps Broke) = []
outcome_names (Jumps (Raised v)) = value_names v

abbrev pub point_names : Point → List Ref
point_names (Gives o fs) = outcome_names o ++ frames_names fs
point_names (Evals e fs) = frames_names fs
point_names (Lists es before fs) = values_names before ++ frames_names fs
point_names (Finds ts before es fs) = targets_names before ++ frames_names fs
point_names (Sets pairs fs) = flat_map set_names pairs ++ frames_names fs
point_names (Runs b fs) = frames_names fs
point_names (Starts t fs) = thing_names t ++ frames_names fs
point_names (Texts values before fs) = values_names values ++ frames_names fs
point_names (Asking q fs) = frames_names fs
point_names (Works work) = []

-- WHAT IS HELD beside them: the tables of the environment, the values of modules, the tables of loaded data, the frames, registers,
-- and functions in progress
abbrev pub progress_names : Progress → List Ref
progress_names Running = []
progress_names (Finished v) = value_names v

abbrev pub module_names : Titled Progress → List Ref
module_names x = progress_names x.item

abbrev pub data_names : Titled Value → List Ref
data_names x = value_names x.item

abbrev pub run_frame_names : Frame → List Ref
run_frame_names f = value_names f.table

abbrev pub held_names : Slots → List Ref
held_names s = tab s.globals ∷ tab s.strings ∷ (flat_map module_names s.modules ++ (flat_map data_names s.data_ ++ (flat_map run_frame_names s.frames ++ (flat_map slot_names s.regs ++ functions_names s.functions))))

-- THE ROOTS of a machine
abbrev pub roots : Point → Slots → List Ref
roots point s = point_names point ++ held_names s
