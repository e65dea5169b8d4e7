-- WHAT `run_job` ENSURES: it is the drive of one invocation.
use Rattle.std.specs.Prelude.{◌≡◌, ℕ, ◌+◌, ◌≤◌, Result, Ok}
use Rattle.page_meaning.specs.WkBaseDeclaredLeftLeft.{Left}
use Rattle.mw_frame.specs.WkBaseDeclaredLeftLimits.{Limits}
use Rattle.lua_code.specs.WkBaseDeclaredTitleTitle.{Title}
use Rattle.lua_code.specs.LuaMeaningWorld.{Modules}
use Rattle.mw_frame.specs.declared.scene.Job.{Job}
use Rattle.page_meaning.specs.LuaMeaningStart.{Invoke}
use Rattle.page_meaning.specs.Wiki.{Wiki}
use Rattle.page_meaning.specs.Outcomes.{job_outcome}
use Rattle.page_meaning.specs.Drive.{drive, invoke}
use Rattle.page_meaning.specs.Page.{kept_in, begun_in}
use Rattle.page_tasks.specs.PageGroundGround.{Ground, page_of, wiki_in, wiki_of, AreModulesIn, AreModulesOf}
use Rattle.page_tasks.specs.declared.task.Reply.{Reply}
use Rattle.page_tasks.specs.Seen.{outcome_of}
use Rattle.page_driver.specs.declared.job.JobEnd.{JobEnd}
use Rattle.page_driver.specs.declared.wiki.Wiki.{Wiki as HeldWiki}
use Rattle.page_driver.specs.Page.{full_of}

-- AN INVOCATION BY ITSELF ends as its run does with all questions answered, and leaves what that leaves. At least the nodes that are begun were
-- counted from k on, and at most the steps that were taken, those for kept data left out.
pub record IsJob (wiki : Wiki) (page : Title) (job : Job) (full : Left) (k k' : ℕ) (e : JobEnd) : Type 0 where
  pub outcome_is : e.outcome ≡ job_outcome (drive wiki page (Invoke job) full)
  pub left_is : e.left ≡ (invoke wiki page job full).left
  pub begun : k + begun_in (invoke wiki page job full).tally ≤ k'
  pub paid : k' + e.left.steps + kept_in (invoke wiki page job full).tally ≤ k + full.steps

-- FOR ALL MODULES whose code is held it is the run on the wiki that has them: as if the page of this title invoked it,
abbrev pub IsJobOf : HeldWiki → Title → Job → Limits → ℕ → ℕ → JobEnd → Type 0
IsJobOf wiki page job limits k k' e = (modules : Modules) → AreModulesIn page wiki.modules modules → IsJob (wiki_in wiki.pages modules) page job (full_of limits) k k' e

-- or the page that is expanded
abbrev pub IsJobOn : Ground → Job → Limits → ℕ → ℕ → JobEnd → Type 0
IsJobOn g job limits k k' e = (modules : Modules) → AreModulesOf g modules → IsJob (wiki_of g modules) (page_of g) job (full_of limits) k k' e

-- it is the end of a run that came to some reply, with this left
abbrev pub IsEndOf : {E : Type 0} → Result Reply E → Left → JobEnd → Type 0
IsEndOf came left e = (r : Reply) × (came ≡ Ok r) × (e.outcome ≡ outcome_of r) × (e.left ≡ left)
