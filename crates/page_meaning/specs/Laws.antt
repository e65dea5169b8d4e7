-- THE LAWS of pages, which the functions of this crate ensure.
use Rattle.std.specs.Prelude.{◌≡◌, ◌⊎◌, ℕ, true, ◌+◌, ◌-◌, ◌≤◌, ◌<◌, List, []}
use Rattle.wk_base.specs.declared.title.Title.{Title}
use Rattle.wk_base.specs.declared.left.Left.{Left}
use Rattle.wk_base.specs.Titles.{title_text}
use Rattle.page_run.specs.declared.which.Which.{Which}
use Rattle.page_run.specs.State.{Loads, NoLoads, Load, Gives, Exhausts, Reply, Event, Ended, Spent, Asked}
use Rattle.page_run.specs.Perform.{NoRise}
use Rattle.page_run.specs.Charges.{KeepsCalls}
use Rattle.expand_meaning.specs.WikiMarkupTrees.{Trees}
use Rattle.expand_meaning.specs.Outcome.{Work as PageWork, next_event}
use Rattle.lua_meaning_laws.specs.LuaMeaningQuestions.{Answer}
use Rattle.lua_meaning_laws.specs.LuaMeaningStart.{Work, Invoke, lua}
use Rattle.page_meaning.specs.Wiki.{Wiki, setting, world}
use Rattle.page_meaning.specs.Told.{PageSeen, invoked}
use Rattle.page_meaning.specs.Drive.{invocation_reply, reply, replies, one_run, drive, load}
use Rattle.page_meaning.specs.Page.{page}
use Rattle.page_meaning.specs.Points.{drive_after, expand_after, Follows}

-- A RUN with its questions answered is one run, whose replies are computed by such runs. No bound on runs inside one another is seen.
abbrev pub DriveIsOneRun : Type 0
DriveIsOneRun = (wiki : Wiki) (page : Title) (work : Work) (l : Left) → drive wiki page work l ≡ one_run wiki page (drive wiki page) work l

-- NO REPLY leaves more steps and nodes than there were, and none leaves another number of calls.
abbrev pub RepliesOnlyTake : Type 0
RepliesOnlyTake = (wiki : Wiki) (page : Title) → NoRise (replies wiki page (drive wiki page)) × NoRise (invocation_reply wiki page (drive wiki page))

abbrev pub RepliesGiveCallsBack : Type 0
RepliesGiveCallsBack = (wiki : Wiki) (page : Title) → KeepsCalls (replies wiki page (drive wiki page)) × KeepsCalls (invocation_reply wiki page (drive wiki page))

-- EACH QUESTION is answered, so no run waits in the end.
abbrev pub IsOver : {H Q O : Type 0} → Event H Q O → Type 0
IsOver (Ended outcome m) = Unit {0}
IsOver (Spent which m) = Unit {0}
IsOver (Asked question m) = ⊥

abbrev pub RunsComeToAnEnd : Type 0
RunsComeToAnEnd = (wiki : Wiki) (page : Title) (work : Work) (l : Left) → IsOver (drive wiki page work l)

-- EACH EXPANSION comes to a text, and so each page: nothing that is spent inside it spends it.
abbrev pub IsText : PageSeen → Type 0
IsText (Ended text m) = Unit {0}
IsText (Spent which m) = ⊥
IsText (Asked job m) = ⊥

abbrev pub ExpansionsComeToTexts : Type 0
ExpansionsComeToTexts = (wiki : Wiki) (page : Title) (work : PageWork) (l : Left) → IsText (expand_after wiki page work l [])

-- WHAT IS SEEN of a run says what it comes to: so a suspended machine goes on where it stands, and nothing is run twice.
abbrev pub RunsGoOn : Type 0
RunsGoOn = (wiki : Wiki) (page : Title) (work : Work) (first : Left) (given : List (Reply Answer)) →
    Follows (lua (world wiki page) work first given) (reply wiki page (drive wiki page)) (drive_after wiki page work first) given

abbrev pub ExpansionsGoOn : Type 0
ExpansionsGoOn = (wiki : Wiki) (page : Title) (work : PageWork) (first : Left) (given : List (Reply (List ℕ))) →
    Follows (next_event (setting wiki page) work first given) (λ job l. invoked (drive wiki page (Invoke job) l)) (expand_after wiki page work first) given

-- KEPT DATA (Scribunto, mw.loadData: a module is evaluated once per page). The charge of a load, in steps, and its height, the most calls
-- in progress at one time.
module _ (wiki : Wiki) (page : Title) where
  abbrev pub charge_of : Title → Left → ℕ
  charge_of title l = l.steps - (load wiki page title l).left.steps

  abbrev pub height_of : Title → Left → ℕ
  height_of title l = (load wiki page title l).tally.height

  -- of a load that completed: it was covered
  pub record IsCovered (title : Title) (now : Left) : Type 0 where
    pub steps : charge_of title now ≤ now.steps
    pub calls : height_of title now ≤ now.calls
    pub left : (load wiki page title now).left ≡ record now { steps = now.steps - charge_of title now }

abbrev pub LoadsAreCovered : Type 0
LoadsAreCovered = (wiki : Wiki) (page title : Title) (now : Left) (a : Answer) → (load wiki page title now).response ≡ Gives a → IsCovered wiki page title now

-- Wherever that charge and that height are covered, a fresh load gives the same answer with the same tally, and takes exactly that charge.
abbrev pub KeptIsFresh : Type 0
KeptIsFresh = (wiki : Wiki) (page title : Title) (now : Left) (a : Answer) → (load wiki page title now).response ≡ Gives a → (l : Left) →
    charge_of wiki page title now ≤ l.steps → height_of wiki page title now ≤ l.calls →
    load wiki page title l ≡ record (load wiki page title now) { left = record l { steps = l.steps - charge_of wiki page title now } }

-- With fewer steps or calls it is spent.
abbrev pub ShortIsSpent : Type 0
ShortIsSpent = (wiki : Wiki) (page title : Title) (now : Left) (a : Answer) → (load wiki page title now).response ≡ Gives a → (l : Left) →
    (l.steps < charge_of wiki page title now) ⊎ (l.calls < height_of wiki page title now) →
    (which : Which) × ((load wiki page title l).response ≡ Exhausts which)

-- WHAT IS KEPT of a load that completed: its answer, its charge and its height
module _ (wiki : Wiki) (page : Title) where
  pub record IsKept (title : Title) (answer : Answer) (charge height : ℕ) : Type 0 where
    pub now : Left
    pub gives : (load wiki page title now).response ≡ Gives answer
    pub charge_is : charge ≡ charge_of wiki page title now
    pub height_is : height ≡ height_of wiki page title now

  -- these stand for a fresh load from here: it gives that answer, takes that charge, has that height, and is told as completed
  pub record StandsFor (title : Title) (answer : Answer) (charge height : ℕ) (l : Left) : Type 0 where
    pub gives : (load wiki page title l).response ≡ Gives answer
    pub left : (load wiki page title l).left ≡ record l { steps = l.steps - charge }
    pub height_is : (load wiki page title l).tally.height ≡ height
    pub nodes : ℕ
    pub inner : Loads
    pub loads : (load wiki page title l).tally.loads ≡ Load (title_text title) charge nodes true inner NoLoads

-- What is kept stands for a fresh load wherever it is covered.
abbrev pub KeptServes : Type 0
KeptServes = (wiki : Wiki) (page title : Title) (answer : Answer) (charge height : ℕ) → IsKept wiki page title answer charge height → (l : Left) →
    charge ≤ l.steps → height ≤ l.calls → StandsFor wiki page title answer charge height l

-- The charges that are kept on a page are paid: with what is left they are no more than the steps that there were.
abbrev pub KeptIsPaid : Type 0
KeptIsPaid = (wiki : Wiki) (title : Title) (trees : Trees) (full : Left) → (page wiki title trees full).repeat_charges + (page wiki title trees full).left.steps ≤ full.steps
