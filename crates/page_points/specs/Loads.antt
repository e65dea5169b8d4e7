-- DATA LOADS on a page, of which some were kept.
use Rattle.std.specs.Prelude.{◌≡◌, ℕ, ◌-◌, ◌≤◌}
use Rattle.page_meaning.specs.WkBaseDeclaredLeftLeft.{Left}
use Rattle.page_meaning.specs.WkBaseDeclaredTitleTitle.{Title}
use Rattle.page_meaning.specs.PageRunState.{Gives, Reply}
use Rattle.page_meaning.specs.PageRunWalk.{WalkState, walk, pass_repeat}
use Rattle.page_meaning.specs.LuaMeaningQuestions.{Answer}
use Rattle.page_meaning.specs.Wiki.{Wiki}
use Rattle.page_meaning.specs.Drive.{load}

-- A LOAD FROM HERE gives this at that charge and height, and it is a repeat
pub record IsServed (wiki : Wiki) (page title : Title) (answer : Answer) (charge height : ℕ) (l : Left) (now : WalkState) : Type 0 where
  pub gives : (load wiki page title l).response ≡ Gives answer
  pub leaves : (load wiki page title l).left ≡ record l { steps = l.steps - charge }
  pub height_is : (load wiki page title l).tally.height ≡ height
  pub invokes : (load wiki page title l).tally.invoked_nodes ≡ 0
  pub walks : walk (load wiki page title l).tally.loads now ≡ pass_repeat charge now

-- what it took was there
pub record IsPaid (first : Left) (r : Reply Answer) : Type 0 where
  pub falls : r.left.steps ≤ first.steps
  pub keeps : r.left.calls ≡ first.calls
  pub covers : r.tally.height ≤ first.calls
