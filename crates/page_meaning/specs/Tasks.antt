-- TASKS: runs of Lua and expansions alike, as a driver has them on one stack. What a task is told, and what it comes to, are replies of one type.
use Rattle.std.specs.Prelude.{◌≡◌, ℕ, ◌-◌, List, [], ◌∷◌, ◌++◌, map, Option, Some, None}
use Rattle.wk_base.specs.declared.title.Title.{Title}
use Rattle.wk_base.specs.declared.left.Left.{Left}
use Rattle.wk_base.specs.Titles.{title_text}
use Rattle.page_run.specs.State.{Loads, NoLoads, Load, join_loads, Response, Gives, Exhausts, Reply, Ended, Spent, Asked}
use Rattle.page_run.specs.Walk.{tally_of}
use Rattle.expand_meaning.specs.MwFrameDeclaredSceneArg.{Arg}
use Rattle.expand_meaning.specs.MwFrameDeclaredSceneScene.{Scene}
use Rattle.expand_meaning.specs.MwFrameDeclaredSceneJob.{Job}
use Rattle.lua_meaning_laws.specs.MwFrameDeclaredQuestionAsk.{Ask}
use Rattle.lua_meaning_laws.specs.MwFrameDeclaredQuestionAskTheVariants.{Template, Preprocess, Data}
use Rattle.expand_meaning.specs.WikiMarkupTrees.{Trees}
use Rattle.expand_meaning.specs.Outcome.{Work as PageWork, Reading, Including, next_event, page_scene}
use Rattle.lua_meaning_laws.specs.LuaMeaningWorld.{Module}
use Rattle.lua_meaning_laws.specs.LuaMeaningQuestions.{Answer, Expanded}
use Rattle.lua_meaning_laws.specs.LuaMeaningStart.{Work, Invoke, DataOf, lua}
use Rattle.page_meaning.specs.Wiki.{Wiki, setting, world, read}
use Rattle.page_meaning.specs.Told.{Seen, PageSeen, invoked, completes, loaded, expanded, absent}
use Rattle.page_meaning.specs.Page.{Page, kept_in, begun_in, page}
use Rattle.page_meaning.specs.Points.{drive_after, expand_after}

pub data Task : Type 0 where
  Running : (work : Work) → Task
  Expanding : (work : PageWork) → Task

pub data Question : Type 0 where
  OfLua : (question : Ask) → Question
  OfPage : (job : Job) → Question

-- what is seen of a task: of a run of Lua, or of an expansion
abbrev pub Sight : Task → Type 0
Sight (Running work) = Seen
Sight (Expanding work) = PageSeen

-- after the replies that it was given, a task has come to its own reply, or it wants another
pub data Progress : Type 0 where
  Comes : (reply : Reply Answer) → Progress
  Wants : (question : Question) (left : Left) → Progress

-- the text of an invocation, as an answer, and back; no other answer is given to an expansion
abbrev pub text_of : Answer → List ℕ
text_of (Expanded text) = text
text_of _ = []

abbrev pub answer_response : Response (List ℕ) → Response Answer
answer_response (Gives text) = Gives (Expanded text)
answer_response (Exhausts which) = Exhausts which

abbrev pub text_response : Response Answer → Response (List ℕ)
text_response (Gives answer) = Gives (text_of answer)
text_response (Exhausts which) = Exhausts which

abbrev pub as_answer : Reply (List ℕ) → Reply Answer
as_answer r = record { response = answer_response r.response; left = r.left; tally = r.tally }

abbrev pub as_text : Reply Answer → Reply (List ℕ)
as_text r = record { response = text_response r.response; left = r.left; tally = r.tally }

-- what the end of a run of Lua is told as
abbrev pub lua_reply : Work → Left → Seen → Reply Answer
lua_reply (Invoke job) first e = as_answer (invoked e)
lua_reply (DataOf title) first e = loaded title first e

abbrev pub lua_progress : Work → Left → Seen → Progress
lua_progress work first (Ended outcome m) = Comes (lua_reply work first (Ended outcome m))
lua_progress work first (Spent which m) = Comes (lua_reply work first (Spent which m))
lua_progress work first (Asked question m) = Wants (OfLua question) m.left

abbrev pub page_progress : PageSeen → Progress
page_progress (Ended text m) = Comes (expanded (Ended text m))
page_progress (Spent which m) = Comes (expanded (Spent which m))
page_progress (Asked job m) = Wants (OfPage job) m.left

-- the task that answers a question, if there is one
abbrev pub including : Option Trees → Title → Scene → List Arg → Option Task
including (Some trees) title scene args = Some (Expanding (Including trees title record scene { args = args }))
including None title scene args = None

abbrev pub loading : Option Module → Title → Option Task
loading (Some m) title = Some (Running (DataOf title))
loading None title = None

abbrev pub task_of : Wiki → Question → Option Task
task_of wiki (OfLua (Template scene title args)) = including (wiki.included title) title scene args
task_of wiki (OfLua (Preprocess scene text)) = Some (Expanding (Reading (read text) scene))
task_of wiki (OfLua (Data title)) = loading (wiki.modules title) title
task_of wiki (OfPage job) = Some (Running (Invoke job))

module _ (wiki : Wiki) (page : Title) where
  -- WHAT A TASK DOES NEXT, after these replies
  abbrev pub progress : Task → Left → List (Reply Answer) → Progress
  progress (Running work) first given = lua_progress work first (lua (world wiki page) work first given)
  progress (Expanding work) first given = page_progress (next_event (setting wiki page) work first (map as_text given))

  -- WHAT IS SEEN of it in the end, with the questions beyond them answered,
  abbrev pub sight : (task : Task) → Left → List (Reply Answer) → Sight task
  sight (Running work) first given = drive_after wiki page work first given
  sight (Expanding work) first given = expand_after wiki page work first (map as_text given)

  -- and WHAT IT COMES TO
  abbrev pub total : Task → Left → List (Reply Answer) → Reply Answer
  total (Running work) first given = lua_reply work first (drive_after wiki page work first given)
  total (Expanding work) first given = expanded (expand_after wiki page work first (map as_text given))

  -- the reply to a question: what the task that answers it comes to, or that there is none
  abbrev pub total_or_absent : Option Task → Left → Reply Answer
  total_or_absent (Some task) l = total task l []
  total_or_absent None l = absent l

  abbrev pub answer_to : Question → Left → Reply Answer
  answer_to question l = total_or_absent (task_of wiki question) l

  -- the data loads of which it was told so far
  abbrev pub loads_so_far : Task → Left → List (Reply Answer) → Loads
  loads_so_far (Running work) first given = (tally_of (lua (world wiki page) work first given)).loads
  loads_so_far (Expanding work) first given = (tally_of (next_event (setting wiki page) work first (map as_text given))).loads

-- A TASK GOES ON: what it comes to is what it has come to; or the same is seen of it in the end with the answer to its question.
abbrev pub GoesOn : Wiki → Title → Task → Left → List (Reply Answer) → Progress → Type 0
GoesOn wiki page task first given (Comes reply) = total wiki page task first given ≡ reply
GoesOn wiki page task first given (Wants question left) = sight wiki page task first given ≡ sight wiki page task first (given ++ answer_to wiki page question left ∷ [])

abbrev pub TasksGoOn : Type 0
TasksGoOn = (wiki : Wiki) (page : Title) (task : Task) (first : Left) (given : List (Reply Answer)) → GoesOn wiki page task first given (progress wiki page task first given)

-- ITS LOADS: none at its start; with a reply that reply's after those so far; and its own reply tells them, within its own load where it is one.
abbrev pub Tells : Task → Left → Reply Answer → Loads → Type 0
Tells (Running (Invoke job)) first r loads = r.tally.loads ≡ loads
Tells (Running (DataOf title)) first r loads = (nodes : ℕ) × (r.tally.loads ≡ Load (title_text title) (first.steps - r.left.steps) nodes (completes r.response) loads NoLoads)
Tells (Expanding work) first r loads = r.tally.loads ≡ loads

abbrev pub TasksTellLoads : Type 0
TasksTellLoads = (wiki : Wiki) (page : Title) (task : Task) (first : Left) →
    (loads_so_far wiki page task first [] ≡ NoLoads)
    × ((given : List (Reply Answer)) (question : Question) (left : Left) → progress wiki page task first given ≡ Wants question left → (r : Reply Answer) →
    loads_so_far wiki page task first (given ++ r ∷ []) ≡ join_loads (loads_so_far wiki page task first given) r.tally.loads)
    × ((given : List (Reply Answer)) (r : Reply Answer) → progress wiki page task first given ≡ Comes r → Tells task first r (loads_so_far wiki page task first given))

-- A PAGE is what the expansion of its own text comes to.
abbrev pub given_text : Response Answer → List ℕ
given_text (Gives answer) = text_of answer
given_text (Exhausts which) = []

abbrev pub page_told : Reply Answer → Page
page_told r = record { text = given_text r.response; left = r.left; repeat_charges = kept_in r.tally; begun = begun_in r.tally }

abbrev pub PagesAreTasks : Type 0
PagesAreTasks = (wiki : Wiki) (title : Title) (trees : Trees) (full : Left) → page wiki title trees full ≡ page_told (total wiki title (Expanding (Reading trees (page_scene title))) full [])
