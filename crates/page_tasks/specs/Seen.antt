-- WHAT A TASK CAME TO, as the meaning has it, and what an expansion is told for an answer.
use Rattle.std.specs.Prelude.{ℕ, List, []}
use Rattle.page_run.specs.State.{Response, Gives, Exhausts}
use Rattle.page_ground.specs.LuaMeaningQuestions.{Answer, Expanded}
use Rattle.page_ground.specs.PageMeaningDeclaredOutcomeJobOutcome.{JobOutcome}
use Rattle.page_ground.specs.PageMeaningDeclaredOutcomeJobOutcomeTheVariants as ending
use Rattle.page_ground.specs.PageMeaningOutcomes.{outcome_text}
use Rattle.page_ground.specs.Seen.{data_seen}
use Rattle.page_tasks.specs.declared.task.Reply.{Reply}
use Rattle.page_tasks.specs.declared.task.Reply.TheVariants as reply
use Rattle.lua_machine.specs.declared.event.Answer.{Answer as Told}
use Rattle.lua_machine.specs.declared.event.Answer.TheVariants as answer

abbrev pub reply_seen : Reply → Response Answer
reply_seen (reply.Ended so) = Gives (Expanded (outcome_text so))
reply_seen (reply.Data d) = Gives (data_seen d)
reply_seen (reply.Spent which) = Exhausts which

-- how an invocation ended, which gives no data
abbrev pub outcome_of : Reply → JobOutcome
outcome_of (reply.Ended so) = so
outcome_of (reply.Data d) = ending.Done []
outcome_of (reply.Spent which) = ending.Spent which

-- no answer but a text is one to an expansion
abbrev pub answered_text : Told → List ℕ
answered_text (answer.Expanded text) = text
answered_text _ = []
