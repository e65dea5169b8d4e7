-- THE WEIGHT of what a machine does next and of the frames that wait: it falls in each move that costs no step. So between two steps
-- there are only so many moves.
use Rattle.std.specs.Prelude.{ℕ, ◌+◌, ◌*◌, List, [], ◌∷◌, length}
use Rattle.lua_slots.specs.PageRunOutcome.{Outcome, Goes, Jumps}
use Rattle.lua_slots.specs.LuaHeapValue.{Value}
use Rattle.lua_slots.specs.LuaMeaningActs.{Jump, Returned}
use Rattle.lua_slots.specs.LuaMeaningPending.{Pending, PcallWaits, XpcallWaits, HandlerWaits, ToStringWaits, PairsWaits, GsubWaits, ModuleWaits}
use Rattle.lua_slots.specs.Points.{SFrame, First, Verdict, IndexNow, DecideNext, OperateNow, UnaryNow, ArgumentsNext, MethodNext, MethodNow, MoreNext, ItemNow, PairNow, FieldsNext, ItemsNext, TargetNow, AssignNow, SetsNext, DeclareNow, StatsNext, BranchNext, EachValues, EachEnd, Waits, Hears, ModuleFound, FunctionFound, AnswerNow, TextNow, DataNow}
use Rattle.lua_slots.specs.Points.{Point, Gives, Evals, Lists, Finds, Sets, Runs, Starts, Texts, Asking, Works, Move, Costs, Marks, Enters, Exits, Now}

-- Values that are given weigh two each: frames may handle them one by one, as do those of a constructor and of the answer.
abbrev pub of_outcome : Outcome (List Value) Jump → ℕ
of_outcome (Goes vs) = 2 * length vs + 1
of_outcome (Jumps (Returned vs)) = 2 * length vs + 1
of_outcome (Jumps j) = 1

-- an assignment whose targets are found, and before: so many are left, and so many stand in front
abbrev pub of_sets : ℕ → ℕ
of_sets n = 2 * n + 2

abbrev pub of_finds : ℕ → ℕ → ℕ
of_finds left before = 3 * left + 2 * before + 5

-- the texts of so many values
abbrev pub of_texts : ℕ → ℕ
of_texts n = 2 * n + 4

-- a search for the empty text may cost nothing: there are so many more matches at most
abbrev pub of_pending : Pending → ℕ
of_pending PcallWaits = 5
of_pending (XpcallWaits h) = 6
of_pending HandlerWaits = 5
of_pending ToStringWaits = 3
of_pending PairsWaits = 7
of_pending (GsubWaits w) = 3 * w.limit + 5
of_pending (ModuleWaits title) = 3

-- FRAMES: more than what their moves without charge lead to
abbrev pub of_frame : SFrame → ℕ
of_frame First = 3
of_frame (Verdict negated) = 3
of_frame (IndexNow of line) = 6
of_frame (DecideNext deciding b) = 3
of_frame (OperateNow o a line) = 4
of_frame (UnaryNow o line) = 4
of_frame (ArgumentsNext args line) = 3
of_frame (MethodNext x args line) = 8
of_frame (MethodNow object args line) = 5
of_frame (MoreNext es before) = 2 * length before + 4
of_frame (ItemNow t n more line) = 4
of_frame (PairNow t n key more line) = 4
of_frame (FieldsNext t n more line) = 3
of_frame (ItemsNext t n left line) = length left + 3
of_frame (TargetNow of line more before values) = of_finds (length more) (length before + 1)
of_frame (AssignNow targets) = of_sets (length targets)
of_frame (SetsNext pairs) = of_sets (length pairs)
of_frame (DeclareNow flags more) = 2
of_frame (StatsNext more) = 2
of_frame (BranchNext b more other) = 3
of_frame (EachValues flags b line) = 2
of_frame (EachEnd d flags f state before b line) = 2
of_frame (Waits pending line) = of_pending pending
of_frame (Hears asked line) = 3
of_frame (ModuleFound name frame) = 8
of_frame (FunctionFound name frame) = 5
of_frame AnswerNow = 4
of_frame (TextNow more before) = of_texts (length more)
of_frame DataNow = 3
of_frame f = 1

abbrev pub of_frames : List SFrame → ℕ
of_frames [] = 0
of_frames (f ∷ fs) = of_frame f + of_frames fs

-- POINTS: what takes a step in its next move weighs nothing
abbrev pub weight : Point → ℕ
weight (Gives o fs) = of_outcome o + of_frames fs
weight (Evals e fs) = 0
weight (Lists es before fs) = 2 * length before + 2 + of_frames fs
weight (Finds targets before values fs) = of_finds (length targets) (length before) + of_frames fs
weight (Sets pairs fs) = of_sets (length pairs) + of_frames fs
weight (Runs b fs) = 2 + of_frames fs
weight (Starts t fs) = 0
weight (Texts vs before fs) = of_texts (length vs) + of_frames fs
weight (Asking q fs) = 0
weight (Works work) = 0

-- of where a move leads
abbrev pub weight_after : Move → ℕ
weight_after (Costs n mv) = weight_after mv
weight_after (Marks mv) = weight_after mv
weight_after (Enters mv) = weight_after mv
weight_after (Exits mv) = weight_after mv
weight_after (Now point s) = weight point
