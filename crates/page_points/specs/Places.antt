-- WHERE THE TASKS OF A PAGE STAND, one upon another: each below the top one waits for what the one above it comes to.
use Rattle.std.specs.Prelude.{◌≡◌, ℕ, ◌+◌, ◌-◌, false, ◌&&◌, List, [], ◌∷◌, ◌++◌, map}
use Rattle.page_meaning.specs.WkBaseDeclaredTitleTitle.{Title}
use Rattle.page_meaning.specs.WkBaseDeclaredLeftLeft.{Left}
use Rattle.page_meaning.specs.WkBaseTitles.{title_text}
use Rattle.page_meaning.specs.PageRunState.{Loads, NoLoads, Load, Reply}
use Rattle.page_meaning.specs.PageRunWalk.{WalkState, empty_walk, walk, is_in, add_if, tally_of}
use Rattle.lua_walk.specs.LuaHeapReach.{Set, nowhere}
use Rattle.page_meaning.specs.ExpandMeaningOutcome.{next_event}
use Rattle.page_meaning.specs.LuaMeaningQuestions.{Answer}
use Rattle.page_meaning.specs.LuaMeaningStart.{Invoke, DataOf, lua}
use Rattle.page_meaning.specs.Wiki.{Wiki, setting, world}
use Rattle.page_meaning.specs.Told.{completes}
use Rattle.page_meaning.specs.Tasks.{Task, Running, Expanding, Question, Progress, Comes, Wants, as_text, progress, sight, total, answer_to, loads_so_far}

-- A PLACE on the stack: a task, from its first allowances and after its replies; the walk over the data loads of the page up to its start;
-- the nodes that were counted in its own run; and what a machine has of the store.
pub record Place : Type 0 where
  pub task : Task
  pub first : Left
  pub given : List (Reply Answer)
  pub began : WalkState
  pub nodes : ℕ
  pub within : Set

-- a task that begins
abbrev pub beginning : Task → Left → WalkState → Place
beginning task first began = record { task = task; first = first; given = []; began = began; nodes = 0; within = nowhere }

-- with one reply more
abbrev pub replied : Place → Reply Answer → Place
replied p r = record p { given = p.given ++ r ∷ [] }

-- THE REPLY to which a task has come tells its loads and the nodes of invocations, among them its own
abbrev pub TellsAll : Task → Left → ℕ → ℕ → Loads → Reply Answer → Type 0
TellsAll (Running (Invoke job)) first nodes invoked loads r = (r.tally.loads ≡ loads) × (r.tally.invoked_nodes ≡ invoked + nodes)
TellsAll (Running (DataOf title)) first nodes invoked loads r = (r.tally.loads ≡ Load (title_text title) (first.steps - r.left.steps) nodes (completes r.response) loads NoLoads) × (r.tally.invoked_nodes ≡ 0)
TellsAll (Expanding work) first nodes invoked loads r = (r.tally.loads ≡ loads) × (r.tally.invoked_nodes ≡ invoked)

-- the walk after a task that has come to a reply: where it was a load, its nodes are counted, and its module's name, where it completed
abbrev pub EndsWalk : Task → Reply Answer → WalkState → WalkState → Type 0
EndsWalk (Running (Invoke job)) r now next = next ≡ now
EndsWalk (Running (DataOf title)) r now next = (next.repeat_charges ≡ now.repeat_charges) × (next.completed_modules ≡ add_if (completes r.response) (title_text title) now.completed_modules)
EndsWalk (Expanding work) r now next = next ≡ now

module _ (wiki : Wiki) (page : Title) where
  -- what it comes to, from its start and from here; what it does next; its data loads so far
  abbrev pub from_start : Place → Reply Answer
  from_start p = total wiki page p.task p.first []

  abbrev pub from_here : Place → Reply Answer
  from_here p = total wiki page p.task p.first p.given

  abbrev pub next_of : Place → Progress
  next_of p = progress wiki page p.task p.first p.given

  abbrev pub loads_of : Place → Loads
  loads_of p = loads_so_far wiki page p.task p.first p.given

  -- the nodes of the invocations of which it was told so far
  abbrev pub invoked_so_far : Task → Left → List (Reply Answer) → ℕ
  invoked_so_far (Running work) first given = (tally_of (lua (world wiki page) work first given)).invoked_nodes
  invoked_so_far (Expanding work) first given = (tally_of (next_event (setting wiki page) work first (map as_text given))).invoked_nodes

  -- the nodes begun in it and in the invocations inside it
  abbrev pub counted : Place → ℕ
  counted p = p.nodes + invoked_so_far p.task p.first p.given

  abbrev pub counted_in : List Place → ℕ
  counted_in [] = 0
  counted_in (p ∷ ps) = counted p + counted_in ps

  -- A LOAD that is no repeat: it doesn't complete, or its module had not completed before it began
  abbrev pub IsFresh : Task → Left → WalkState → Type 0
  IsFresh (Running (Invoke job)) first began = Unit {0}
  IsFresh (Running (DataOf title)) first began = (completes (total wiki page (Running (DataOf title)) first []).response && is_in (title_text title) began.completed_modules) ≡ false
  IsFresh (Expanding work) first began = Unit {0}

  -- A PLACE WAITS for the reply r to its question, where the walk has come to w: with that reply the same is seen of it as from its start
  pub record WaitsFor (p : Place) (r : Reply Answer) (w : WalkState) : Type 0 where
    pub question : Question
    pub left : Left
    pub wants : next_of p ≡ Wants question left
    pub answer : answer_to wiki page question left ≡ r
    pub answered : sight wiki page p.task p.first (p.given ++ r ∷ []) ≡ sight wiki page p.task p.first []
    pub walked : walk (loads_of p) p.began ≡ w
    pub fresh : IsFresh p.task p.first p.began

  -- THOSE BELOW, the newest first, wait one for another, the first of them for this task; the last one is the root, from all that there was
  abbrev pub Chain : Task → Left → List Place → Task → Left → WalkState → Type 0
  Chain root full [] task first w = (task ≡ root) × (first ≡ full) × (w ≡ empty_walk)
  Chain root full (p ∷ ps) task first w = WaitsFor p (total wiki page task first []) w × Chain root full ps p.task p.first p.began

  -- THE STACK: the top one goes on, and in the end the same is seen of it as from its start; where the others get what it comes to, so it is
  -- of them, and of the root. So far the walk has come to now.
  pub record Going (root : Task) (full : Left) (top : Place) (below : List Place) (now : WalkState) : Type 0 where
    pub same : sight wiki page top.task top.first top.given ≡ sight wiki page top.task top.first []
    pub walked : walk (loads_of top) top.began ≡ now
    pub fresh : IsFresh top.task top.first top.began
    pub chain : Chain root full below top.task top.first top.began

  -- the nodes begun so far on the page, where nothing is evaluated twice
  abbrev pub begun_so_far : Place → List Place → WalkState → ℕ
  begun_so_far top below now = counted_in (top ∷ below) + now.fresh_nodes

  -- WHERE IT HAS COME to a reply
  pub record HasCome (p : Place) (r : Reply Answer) : Type 0 where
    pub comes : next_of p ≡ Comes r
    pub tells : TellsAll p.task p.first p.nodes (invoked_so_far p.task p.first p.given) (loads_of p) r
