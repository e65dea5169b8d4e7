use Rattle.std.proofs.Common.{ap}
use Rattle.page_ground.specs.PageMeaningDeclaredOutcomeJobOutcome.{JobOutcome}
use Rattle.page_tasks.specs.declared.task.Halt.TheVariants as halt
use Rattle.page_tasks.specs.declared.task.Reply.TheVariants as reply
use Rattle.page_tasks.proofs.going.over_halt.Goals as goal

pub end_outcome-requires : goal.end_outcome-requires
end_outcome-requires c = c.requires

pub returns : goal.returns
returns c = ap (λ (so : JobOutcome). halt.Comes (reply.Ended so)) c.in_ok-so.ensures
