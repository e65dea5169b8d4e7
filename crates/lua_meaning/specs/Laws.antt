-- LAWS OF THE MEANING, which the functions of this crate ensure.
use Rattle.std.specs.Prelude.{◌≡◌, ℕ, ◌+◌, true, false, List, [], ◌∷◌, None}
use Rattle.lua_syntax.specs.WkBaseDeclaredTitleTitle.{Title}
use Rattle.page_run.specs.WkBaseDeclaredLeftLeft.{Left}
use Rattle.lua_syntax.specs.Tree.{Exp, Stat, NameE}
use Rattle.page_run.specs.Run.{Takes, Counts, Calls}
use Rattle.page_run.specs.Outcome.{Outcome, Goes, Jumps, ◌>>◌, catch}
use Rattle.page_run.specs.State.{State as Middle, Gives as Responds, Reply, Replier, Moment, Ended, start}
use Rattle.page_run.specs.Perform.{perform, NoRise}
use Rattle.page_run.specs.Events.{BeginsIs, state_after_reply}
use Rattle.page_run.specs.Charges.{KeepsCalls, RepliesFit, GivenBack}
use Rattle.lua_walk.specs.LuaHeapValue.{Value, Table, is_nil}
use Rattle.lua_walk.specs.LuaHeapDeclaredLibraryLibrary.{Library}
use Rattle.lua_walk.specs.LuaHeapHeap.{Heap}
use Rattle.lua_walk.specs.LuaHeapGraph.{Graph, join, joined_root}
use Rattle.lua_meaning.specs.Scope.{Bytes, Scope, Function, Levels, cell_of, levels}
use Rattle.mw_frame.specs.declared.question.Ask.{Ask}
use Rattle.mw_frame.specs.declared.question.Ask.TheVariants.{Data}
use Rattle.lua_meaning.specs.Questions.{Answer, Loaded, Asked, DataAsked}
use Rattle.lua_meaning.specs.Values.{first, rest, second}
use Rattle.lua_meaning.specs.Acts.{LuaRun, Jump, Raised, Running, State, Thing, WhileTurn, RepeatTurn, CountTurn, EachTurn, Body, LibraryBody, ChunkBody}
use Rattle.lua_meaning.specs.Parts.{Target}
use Rattle.lua_meaning.specs.Expressions.{name_target}
use Rattle.lua_meaning.specs.Meaning.{expression, target, statement}
use Rattle.lua_meaning.specs.FrameMethods.{FramedEnd, FrameAsks}
use Rattle.lua_meaning.specs.Waiting.{Waits, calling, asking}
use Rattle.lua_meaning.specs.CallBacks.{pcall, xpcall, xpcall_answer, to_string_by, pairs_by, ipairs_by}
use Rattle.lua_meaning.specs.Modules.{run_chunk, keep_module, run_module, load_as}
use Rattle.lua_meaning.specs.Pending.{PcallWaits, XpcallWaits, HandlerWaits, ToStringWaits, PairsWaits, ModuleWaits, resumes, hears}
use Rattle.lua_meaning.specs.Libraries.{Form, InFrames, form, framed_end}
use Rattle.lua_meaning.specs.Things.{meaning_of}
use Rattle.lua_meaning.specs.Home.{home}
use Rattle.lua_meaning.specs.World.{Module, World}
use Rattle.lua_meaning.specs.Start.{Work, End, DoneData, run_of, outcome_of, end_of}

-- A THING that begins takes a step and does what it means, or the run is spent; no bound on the number of things is seen.
abbrev pub ThingsUnfold : Type 0
ThingsUnfold = (world : World) (beyond : Replier Ask Answer) → NoRise beyond → BeginsIs (meaning_of world) beyond

-- A NODE that begins takes a step, and is counted.
abbrev pub IsNode : LuaRun → Type 0
IsNode p = (more : LuaRun) × (p ≡ Takes 1 (Counts more))

abbrev pub ExpressionsAreNodes : Type 0
ExpressionsAreNodes = (e : Exp) (scope : Scope) (k : Outcome (List Value) Jump → LuaRun) → IsNode (expression e scope k)

abbrev pub StatementsAreNodes : Type 0
StatementsAreNodes = (s : Stat) (scope : Scope) (k : Outcome Scope Jump → LuaRun) → IsNode (statement s scope k)

-- A name as a target is none: it costs nothing.
abbrev pub TargetNamesAreNone : Type 0
TargetNamesAreNone = (line : ℕ) (x : List ℕ) (scope : Scope) (k : Outcome Target Jump → LuaRun) →
    target (NameE line x) scope k ≡ k (Goes (name_target (cell_of scope.names x) x (levels scope line)))

-- A TURN of a loop is counted when it begins, and a function is counted once it is entered.
abbrev pub IsTurn : Thing → Type 0
IsTurn (WhileTurn test body scope) = Unit {0}
IsTurn (RepeatTurn body test scope) = Unit {0}
IsTurn (CountTurn name index limit step body scope) = Unit {0}
IsTurn (EachTurn names iterator state results body line scope) = Unit {0}
IsTurn _ = ⊥

abbrev pub IsEntry : Thing → Type 0
IsEntry (Body function arguments callers) = Unit {0}
IsEntry (LibraryBody which arguments callers) = Unit {0}
IsEntry (ChunkBody source body) = Unit {0}
IsEntry _ = ⊥

abbrev pub TurnsAreCounted : Type 0
TurnsAreCounted = (world : World) (t : Thing) → IsTurn t → (k : Outcome (List Value) Jump → LuaRun) → (more : LuaRun) × (meaning_of world t k ≡ Counts more)

abbrev pub EntriesAreCounted : Type 0
EntriesAreCounted = (world : World) (t : Thing) → IsEntry t → (k : Outcome (List Value) Jump → LuaRun) → (more : LuaRun) × (meaning_of world t k ≡ Calls (Counts more))

-- CALLS in progress are given back at each end of a run; at a question what is left and what is in progress are together what there was.
abbrev pub CallsAreGivenBack : Type 0
CallsAreGivenBack = (world : World) (work : Work) (beyond : Replier Ask Answer) → KeepsCalls beyond → (left : Left) →
    GivenBack left.calls (perform (meaning_of world) beyond (run_of world work) (start home left []))

-- MORE steps and calls change neither the end of a run nor its charge, where the replies fit what is left.
abbrev pub MoreChangesNothing : Type 0
MoreChangesNothing = (world : World) (work : Work) (beyond : Replier Ask Answer) → NoRise beyond → RepliesFit beyond beyond →
    (left : Left) (o : Outcome (List Value) Jump) (end : Moment State) →
    perform (meaning_of world) beyond (run_of world work) (start home left []) ≡ Ended o end → (a b : ℕ) →
    perform (meaning_of world) beyond (run_of world work) (start home record left { steps = left.steps + a; calls = left.calls + b } [])
    ≡ Ended o (record { heap = end.heap; left = record left { steps = end.left.steps + a; calls = left.calls + b }; in_progress = 0; tally = end.tally })

-- THE END of a run is told by its outcome: a data module gives a table.
abbrev pub IsEnd : End → Type 0
IsEnd (DoneData (Table t)) = Unit {0}
IsEnd (DoneData v) = ⊥
IsEnd e = Unit {0}

abbrev pub EndsAreTold : Type 0
EndsAreTold = (e : End) → IsEnd e → end_of (outcome_of e) ≡ e

-- WHAT WAITS is what the tables of names say, for each name.
abbrev pub CallsAreNamed : Type 0
CallsAreNamed = (callers : Levels) (v h : Value) (args : List Value) (k : Outcome (List Value) Jump → LuaRun) →
    (pcall args k ≡ calling (first args) (rest args) (resumes PcallWaits callers) k)
    × (xpcall args k ≡ calling (first args) [] (resumes (XpcallWaits (second args)) callers) k)
    × (xpcall_answer h (Jumps (Raised v)) k ≡ calling h (v ∷ []) (resumes HandlerWaits callers) k)
    × (is_nil h ≡ false → to_string_by h v callers k ≡ calling h (v ∷ []) (resumes ToStringWaits callers) k)
    × (is_nil h ≡ false → pairs_by h args callers k ≡ calling h (first args ∷ []) (resumes PairsWaits callers) k)
    × (is_nil h ≡ false → ipairs_by h args callers k ≡ calling h (first args ∷ []) (resumes PairsWaits callers) k)

abbrev pub ModulesAreNamed : Type 0
ModulesAreNamed = (callers : Levels) (title : Title) (m : Module) (k : Outcome (List Value) Jump → LuaRun) →
    run_module title m k ≡ (keep_module title Running >> catch (run_chunk title m) (resumes (ModuleWaits title) callers)) k

abbrev pub QuestionsAreNamed : Type 0
QuestionsAreNamed = (callers : Levels) (question : Ask) (asked : Asked) (text : Bytes) (title : Title) (k : Outcome (List Value) Jump → LuaRun) →
    (framed_end (FrameAsks question asked) callers k ≡ asking question (hears asked callers) k)
    × (load_as text title None callers k ≡ asking (Data title) (hears (DataAsked text title) callers) k)

-- THE TABLES of a data module stand behind those of the heap, and what waits gets their root.
abbrev pub TablesAreJoined : Type 0
TablesAreJoined = (world : World) (beyond : Replier Ask Answer) → NoRise beyond → (question : Ask) (waits : Waits) (k : Outcome (List Value) Jump → LuaRun) →
    (s : Middle State Answer) (r : Reply Answer) (more : List (Reply Answer)) (graph : Graph) → s.replies ≡ r ∷ more → r.response ≡ Responds (Loaded graph) →
    perform (meaning_of world) beyond (asking question waits k) s
    ≡ perform (meaning_of world) beyond (waits (Goes (joined_root s.heap.heap ∷ [])) k) (record (state_after_reply r more s) { heap = record s.heap { heap = join true graph s.heap.heap } })

-- WITHOUT A FRAME, as in the run of a data module, no function of the library asks for a template or a text, nor makes a frame,
-- whatever its arguments and the heap are.
abbrev pub AsksNothing : FramedEnd → Type 0
AsksNothing (FrameAsks question asked) = ⊥
AsksNothing end = Unit {0}

abbrev pub NeedsNoFrame : {X : Type 0} → Form X → Type 0
NeedsNoFrame (InFrames framed) = AsksNothing framed.end × (framed.frames ≡ [])
NeedsNoFrame other = Unit {0}

abbrev pub FramesAreNeeded : Type 0
FramesAreNeeded = (world : World) (which : Library) (args : List Value) (h : Heap Function) → NeedsNoFrame (form world which args h [])
