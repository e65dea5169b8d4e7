-- HOW A RUN ENDS, as it is told to the run that asked for it: a reply. Each reply leaves what the run left.
use Rattle.std.specs.Prelude.{ℕ, ◌+◌, ◌-◌, Bool, true, false, List, [], ◌++◌, Ok, Err, codes}
use Rattle.wk_base.specs.declared.title.Title.{Title}
use Rattle.wk_base.specs.declared.left.Left.{Left}
use Rattle.wk_base.specs.Titles.{title_text}
use Rattle.page_run.specs.declared.which.Which.{Which}
use Rattle.page_run.specs.declared.which.Which.TheVariants.{Steps, Calls}
use Rattle.page_run.specs.Outcome.{Outcome}
use Rattle.page_run.specs.State.{NoLoads, Load, Tally, no_tally, Response, Gives, Exhausts, Reply, Event, Ended, Spent, Asked, moment_of}
use Rattle.expand_meaning.specs.MwFrameDeclaredSceneJob.{Job}
use Rattle.lua_meaning_laws.specs.MwFrameDeclaredQuestionAsk.{Ask}
use Rattle.lua_meaning_laws.specs.LuaHeapValue.{Value, Text}
use Rattle.lua_meaning_laws.specs.LuaHeapHeap.{Heap}
use Rattle.lua_meaning_laws.specs.LuaHeapGraph.{Graph}
use Rattle.lua_meaning_laws.specs.LuaWalkData.{Fault, NotATable, HasFunction, HasMetatable, BadKey, Checked, taken}
use Rattle.lua_meaning_laws.specs.LuaMeaningQuestions.{Answer, Expanded, NoPage, Loaded, LoadFailed}
use Rattle.lua_meaning_laws.specs.LuaMeaningScope.{Function}
use Rattle.lua_meaning_laws.specs.LuaMeaningActs.{State, Jump}
use Rattle.lua_meaning_laws.specs.LuaMeaningStart.{End, Done, DoneData, Failed, end_of}
use Rattle.expand_meaning.specs.Texts.{error_text}

-- what is seen of a run of Lua, and of an expansion
abbrev pub Seen : Type 0
Seen = Event State Ask (Outcome (List Value) Jump)

abbrev pub PageSeen : Type 0
PageSeen = Event (Unit {0}) Job (List ℕ)

-- AN INVOCATION comes to a text in any case (Extension:Scribunto, "Script error"): what its function gave, or the text of its failure,
-- which is written without marks of HTML already. An allowance that is spent ends the invocation, and not the page.
abbrev pub failure_text : List ℕ → List ℕ
failure_text message = codes "<strong class=\"error\">" ++ message ++ codes "</strong>"

abbrev pub spent_text : Which → List ℕ
spent_text Steps = error_text (codes "Script error: The allowance of steps is spent.")
spent_text Calls = error_text (codes "Script error: The allowance of nested calls is spent.")

-- an invocation gives no data
abbrev pub end_text : End → List ℕ
end_text (Done text) = text
end_text (Failed message) = failure_text message
end_text (DoneData value) = []

-- a run that waits has come to nothing yet; where each question has its reply, none waits
abbrev pub invocation_response : Seen → Response (List ℕ)
invocation_response (Ended outcome m) = Gives (end_text (end_of outcome))
invocation_response (Spent which m) = Gives (spent_text which)
invocation_response (Asked question m) = Gives []

-- its nodes are told to the runs outside of it
abbrev pub as_invoked : Tally → Tally
as_invoked t = record { height = t.height; nodes = 0; invoked_nodes = t.invoked_nodes + t.nodes; loads = t.loads }

abbrev pub invoked : Seen → Reply (List ℕ)
invoked e = record { response = invocation_response e; left = (moment_of e).left; tally = as_invoked (moment_of e).tally }

-- THE LOAD of a data module (Scribunto, mw.loadData): the graph of its table, or why that is no data, or the text of its failure. Where
-- an allowance is spent, the run that asked is spent with it.
abbrev pub fault_text : Fault → List ℕ
fault_text NotATable = codes "data module returned no table"
fault_text HasFunction = codes "data module holds a function"
fault_text HasMetatable = codes "data module holds a metatable"
fault_text BadKey = codes "data module holds a bad key"

abbrev pub graph_answer : Checked Graph → Answer
graph_answer (Ok graph) = Loaded graph
graph_answer (Err fault) = LoadFailed (fault_text fault)

abbrev pub data_answer : Heap Function → End → Answer
data_answer h (DoneData value) = graph_answer (taken h value)
data_answer h (Done text) = graph_answer (taken h (Text text))
data_answer h (Failed message) = LoadFailed message

abbrev pub load_response : Seen → Response Answer
load_response (Ended outcome m) = Gives (data_answer m.heap.heap (end_of outcome))
load_response (Spent which m) = Exhausts which
load_response (Asked question m) = Exhausts Steps

-- A load completes where it gives an answer, a failure too. It stands in the list of loads, with its charge, its nodes, and the loads
-- inside it; there are no invocations inside it, since a data module asks for data alone.
abbrev pub completes : Response Answer → Bool
completes (Gives answer) = true
completes (Exhausts which) = false

abbrev pub as_loaded : Title → ℕ → Bool → Tally → Tally
as_loaded title charge completed t = record { height = t.height; nodes = 0; invoked_nodes = 0; loads = Load (title_text title) charge t.nodes completed t.loads NoLoads }

abbrev pub loaded : Title → Left → Seen → Reply Answer
loaded title first e = record {
  response = load_response e;
  left = (moment_of e).left;
  tally = as_loaded title (first.steps - (moment_of e).left.steps) (completes (load_response e)) (moment_of e).tally;
}

-- AN EXPANSION that Lua asked for gives its text. It takes no steps and no calls, so it is never spent.
abbrev pub text_response : PageSeen → Response Answer
text_response (Ended text m) = Gives (Expanded text)
text_response (Spent which m) = Exhausts which
text_response (Asked job m) = Exhausts Steps

abbrev pub expanded : PageSeen → Reply Answer
expanded e = record { response = text_response e; left = (moment_of e).left; tally = (moment_of e).tally }

-- THERE IS NO such page or module: that takes nothing
abbrev pub absent : Left → Reply Answer
absent left = record { response = Gives NoPage; left = left; tally = no_tally }
