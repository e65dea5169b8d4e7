-- THE LAWS of the stack, which the functions of this crate ensure.
use Rattle.std.specs.Prelude.{◌≡◌, ℕ, ◌-◌, ◌≤◌, List, [], ◌∷◌, Some, IsTrue}
use Rattle.page_meaning.specs.WkBaseDeclaredTitleTitle.{Title}
use Rattle.page_meaning.specs.WkBaseDeclaredLeftLeft.{Left}
use Rattle.page_meaning.specs.WkBaseTitles.{title_text}
use Rattle.page_meaning.specs.PageRunState.{Reply, Gives}
use Rattle.page_meaning.specs.PageRunWalk.{WalkState, empty_walk, walk, is_in}
use Rattle.page_meaning.specs.MwFrameDeclaredQuestionAskTheVariants.{Data}
use Rattle.page_meaning.specs.LuaMeaningWorld.{Module}
use Rattle.page_meaning.specs.LuaMeaningQuestions.{Answer}
use Rattle.page_meaning.specs.LuaMeaningStart.{Work, DataOf, lua}
use Rattle.page_meaning.specs.Wiki.{Wiki, world}
use Rattle.page_meaning.specs.Told.{Seen}
use Rattle.page_meaning.specs.Drive.{drive, load}
use Rattle.page_meaning.specs.Laws.{IsOver, IsKept}
use Rattle.page_meaning.specs.Page.{kept_in, begun_in}
use Rattle.page_meaning.specs.Tasks.{Task, Running, Question, OfLua, Wants, task_of, total, answer_to}
use Rattle.page_points.specs.Places.{Place, beginning, replied, EndsWalk, from_start, next_of, IsFresh, Going, begun_so_far, HasCome}
use Rattle.page_points.specs.Loads.{IsServed, IsPaid}

-- THE ROOT BEGINS: the page's own task, or one by itself.
abbrev pub PageBegins : Type 0
PageBegins = (wiki : Wiki) (page : Title) (task : Task) (first : Left) → IsFresh wiki page task first empty_walk → Going wiki page task first (beginning task first empty_walk) [] empty_walk

-- THE TOP ONE ASKS, and the task that answers it begins above it.
abbrev pub OneBegins : Type 0
OneBegins = (wiki : Wiki) (page : Title) (root : Task) (full : Left) (top : Place) (below : List Place) (now : WalkState) (q : Question) (l : Left) (task : Task) → Going wiki page root full top below now
    → next_of wiki page top ≡ Wants q l → task_of wiki q ≡ Some task → IsFresh wiki page task l now → Going wiki page root full (beginning task l now) (top ∷ below) now

-- It is told the answer at once.
abbrev pub OneIsTold : Type 0
OneIsTold = (wiki : Wiki) (page : Title) (root : Task) (full : Left) (top : Place) (below : List Place) (now : WalkState) (q : Question) (l : Left) (r : Reply Answer) → Going wiki page root full top below now
    → next_of wiki page top ≡ Wants q l → answer_to wiki page q l ≡ r → Going wiki page root full (replied top r) below (walk r.tally.loads now)

-- IT HAS COME to its reply, and the one below is told: nothing that was begun is forgotten, and none is told twice.
abbrev pub OneEnds : Type 0
OneEnds = (wiki : Wiki) (page : Title) (root : Task) (full : Left) (top p : Place) (below : List Place) (now : WalkState) (r : Reply Answer) → Going wiki page root full top (p ∷ below) now → HasCome wiki page top r
    → (next : WalkState) × Going wiki page root full (replied p r) below next × EndsWalk top.task r now next × (begun_so_far wiki page (replied p r) below next ≤ begun_so_far wiki page top (p ∷ below) now)

-- THE PAGE ENDS with what the root comes to.
abbrev pub PageEnds : Type 0
PageEnds = (wiki : Wiki) (page : Title) (root : Task) (full : Left) (top : Place) (now : WalkState) (r : Reply Answer) → Going wiki page root full top [] now → HasCome wiki page top r
    → (total wiki page root full [] ≡ r) × (kept_in r.tally ≡ now.repeat_charges) × (begun_in r.tally ≤ begun_so_far wiki page top [] now)

-- Where the root is a run of Lua, what is seen of it when it is over is its run with all questions answered.
abbrev pub RootIsSeen : Type 0
RootIsSeen = (wiki : Wiki) (page : Title) (root : Task) (full : Left) (top : Place) (now : WalkState) (work : Work) (e : Seen) → Going wiki page root full top [] now → top.task ≡ Running work
    → lua (world wiki page) work top.first top.given ≡ e → IsOver e → (root ≡ Running work) × (drive wiki page work full ≡ e)

-- LOADS: the answer for a module that is held is its load; what was kept serves, as a repeat, where it is covered; and what is kept of a
-- load that completed.
abbrev pub AnswerIsLoad : Type 0
AnswerIsLoad = (wiki : Wiki) (page title : Title) (l : Left) (m : Module) → wiki.modules title ≡ Some m → answer_to wiki page (OfLua (Data title)) l ≡ load wiki page title l

abbrev pub KeptIsServed : Type 0
KeptIsServed = (wiki : Wiki) (page title : Title) (answer : Answer) (charge height : ℕ) (l : Left) (now : WalkState) → IsKept wiki page title answer charge height → charge ≤ l.steps → height ≤ l.calls
    → IsTrue (is_in (title_text title) now.completed_modules) → IsServed wiki page title answer charge height l now

abbrev pub LoadIsKept : Type 0
LoadIsKept = (wiki : Wiki) (page title : Title) (p : Place) (r : Reply Answer) (a : Answer) → p.task ≡ Running (DataOf title) → from_start wiki page p ≡ r → r.response ≡ Gives a
    → IsKept wiki page title a (p.first.steps - r.left.steps) r.tally.height × IsPaid p.first r
