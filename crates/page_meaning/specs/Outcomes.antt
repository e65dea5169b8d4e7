-- HOW AN INVOCATION ENDS BY ITSELF (Extension:Scribunto): with a text, with the message of a failure, or with an allowance that is spent; and
-- the text that stands for that on a page.
use Rattle.std.specs.Prelude.{◌≡◌, ℕ, List, []}
use Rattle.page_run.specs.State.{Gives, Ended, Spent, Asked}
use Rattle.lua_meaning_laws.specs.LuaMeaningStart.{End, Done, DoneData, Failed, end_of}
use Rattle.page_meaning.specs.declared.outcome.JobOutcome.{JobOutcome}
use Rattle.page_meaning.specs.declared.outcome.JobOutcome.TheVariants as ending
use Rattle.page_meaning.specs.Told.{Seen, failure_text, spent_text, invocation_response}

-- an invocation gives no data
abbrev pub end_outcome : End → JobOutcome
end_outcome (Done text) = ending.Done text
end_outcome (Failed message) = ending.Failed message
end_outcome (DoneData value) = ending.Done []

-- a run that waits has come to nothing yet; where each question has its reply, none waits
abbrev pub job_outcome : Seen → JobOutcome
job_outcome (Ended outcome m) = end_outcome (end_of outcome)
job_outcome (Spent which m) = ending.Spent which
job_outcome (Asked question m) = ending.Done []

abbrev pub outcome_text : JobOutcome → List ℕ
outcome_text (ending.Done text) = text
outcome_text (ending.Failed message) = failure_text message
outcome_text (ending.Spent which) = spent_text which

-- THAT TEXT is what an invocation is told as
abbrev pub OutcomesAreTold : Type 0
OutcomesAreTold = (e : Seen) → invocation_response e ≡ Gives (outcome_text (job_outcome e))
