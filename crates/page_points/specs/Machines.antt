-- A MACHINE OF LUA AT ITS PLACE on the stack, in the terms of its calls (`lua_points`); and what its end is told as.
use Rattle.std.specs.Prelude.{◌≡◌, ℕ, ◌+◌, List}
use Rattle.page_meaning.specs.WkBaseDeclaredLeftLeft.{Left}
use Rattle.page_meaning.specs.PageRunOutcome.{Outcome}
use Rattle.page_meaning.specs.PageRunState.{Tally, no_tally, Response, Gives, Exhausts, Reply}
use Rattle.page_meaning.specs.PageRunDeclaredWhichWhich.{Which}
use Rattle.lua_walk.specs.LuaHeapValue.{Value, Text}
use Rattle.lua_points.specs.LuaHeapProc.{Proc}
use Rattle.lua_walk.specs.LuaHeapHeap.{Heap}
use Rattle.lua_walk.specs.LuaHeapReach.{with_new}
use Rattle.lua_walk.specs.Data.{taken}
use Rattle.page_meaning.specs.LuaMeaningQuestions.{Answer, Expanded, LoadFailed}
use Rattle.page_meaning.specs.LuaMeaningActs.{Jump}
use Rattle.page_meaning.specs.LuaMeaningWorld.{World}
use Rattle.page_meaning.specs.LuaMeaningStart.{Work, Invoke, DataOf, End, Done, DoneData, Failed, end_of, lua}
use Rattle.lua_points.specs.LuaSlotsCode.{CWorld}
use Rattle.lua_points.specs.LuaSlotsSlots.{Slots}
use Rattle.lua_points.specs.LuaSlotsPoints.{Point}
use Rattle.lua_points.specs.LuaSlotsEnact.{Funds}
use Rattle.lua_points.specs.At.{At}
use Rattle.lua_points.specs.Clauses.{fund}
use Rattle.page_meaning.specs.WkBaseDeclaredTitleTitle.{Title}
use Rattle.page_meaning.specs.Wiki.{Wiki, world}
use Rattle.page_meaning.specs.declared.outcome.JobOutcome.{JobOutcome}
use Rattle.page_meaning.specs.Told.{Seen, graph_answer, end_text, spent_text}
use Rattle.page_meaning.specs.Outcomes.{job_outcome}
use Rattle.page_meaning.specs.Laws.{IsOver}
use Rattle.page_meaning.specs.Tasks.{Running}
use Rattle.page_points.specs.Places.{Place, HasCome}

-- The most calls in progress at one time are asked of a data module alone.
abbrev pub KnowsHeight : Work → ℕ → ℕ → Type 0
KnowsHeight (Invoke job) told height = Unit {0}
KnowsHeight (DataOf title) told height = told ≡ height

-- A machine with this code stands at the point of the place's run, with so much left and so many calls in progress; its counts are those
-- that were told of the run.
pub record MachineStands (code : CWorld) (world : World) (p : Place) (point : Point) (s : Slots) (left : Left) (calls height : ℕ) : Type 0 where
  pub work : Work
  pub is : p.task ≡ Running work
  pub tally : Tally
  pub at : At code p.within world work p.first p.given point s (fund left calls tally)
  pub nodes : tally.nodes ≡ p.nodes
  pub knows : KnowsHeight work tally.height height

-- THE END of a run, from the outcome that reaches nobody: an invocation's text; of a data module the graph of its table, or its failure
abbrev pub data_told : {X : Type 0} → Heap X → End → Answer
data_told h (DoneData value) = graph_answer (taken h value)
data_told h (Done text) = graph_answer (taken h (Text text))
data_told h (Failed message) = LoadFailed message

abbrev pub end_told : {X : Type 0} → Work → Heap X → Outcome (List Value) Jump → Answer
end_told (Invoke job) h o = Expanded (end_text (end_of o))
end_told (DataOf title) h o = data_told h (end_of o)

-- where an allowance is spent, an invocation is its text, and who asked for a data module is spent with it
abbrev pub spent_told : Work → Which → Response Answer
spent_told (Invoke job) which = Gives (Expanded (spent_text which))
spent_told (DataOf title) which = Exhausts which

-- what a call counted, from nothing
abbrev pub counts : Left → ℕ → ℕ → ℕ → Funds
counts left calls high n = record { left = left; in_progress = calls; tally = record no_tally { height = high; nodes = n } }

-- the place after a call from the one heap to the other, with what was counted in it
abbrev pub gone : Place → Heap Proc → Heap Proc → ℕ → Place
gone p s t n = record p { nodes = p.nodes + n; within = with_new p.within s t }

-- THE RUN OF A PLACE IS OVER, and so it ended
pub record EndedSo (wiki : Wiki) (page : Title) (p : Place) (work : Work) (so : JobOutcome) : Type 0 where
  pub seen : Seen
  pub is_seen : lua (world wiki page) work p.first p.given ≡ seen
  pub over : IsOver seen
  pub outcome_is : job_outcome seen ≡ so

-- IT HAS COME to a reply that says this and leaves so much; the height is known of a data module
pub record EndsAs (wiki : Wiki) (page : Title) (p : Place) (work : Work) (so : JobOutcome) (says : Response Answer) (left : Left) (high : ℕ) : Type 0 where
  pub is : p.task ≡ Running work
  pub reply : Reply Answer
  pub comes : HasCome wiki page p reply
  pub says_so : reply.response ≡ says
  pub leaves : reply.left ≡ left
  pub height : KnowsHeight work reply.tally.height high
  pub ends_so : EndedSo wiki page p work so

-- and an expansion, to its text
pub record EndsText (wiki : Wiki) (page : Title) (p : Place) (text : List ℕ) (left : Left) : Type 0 where
  pub reply : Reply Answer
  pub comes : HasCome wiki page p reply
  pub says_so : reply.response ≡ Gives (Expanded text)
  pub leaves : reply.left ≡ left
