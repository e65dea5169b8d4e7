-- AN INVOCATION THAT CAN'T BE PAID (Extension:Scribunto, "Script error"): what its start costs, what it leaves, and what it is told as.
use Rattle.std.specs.Prelude.{ℕ}
use Rattle.page_run.specs.WkBaseDeclaredLeftLeft.{Left}
use Rattle.page_run.specs.declared.which.Which.TheVariants.{Steps}
use Rattle.page_ground.specs.LuaMeaningQuestions.{Answer, Expanded}
use Rattle.page_ground.specs.PageMeaningDeclaredOutcomeJobOutcomeTheVariants as ending
use Rattle.page_ground.specs.PageMeaningOutcomes.{outcome_text}

-- a run takes so many steps before anything else
abbrev pub start_charge : ℕ
start_charge = 1000

-- no step stays
abbrev pub none_left : Left → Left
none_left l = record l { steps = 0 }

-- what stands for it on the page
abbrev pub refusal : Answer
refusal = Expanded (outcome_text (ending.Spent Steps))
