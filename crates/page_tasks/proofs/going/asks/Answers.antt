use Rattle.std.proofs.Common.{ap}
use Rattle.mw_frame.specs.declared.question.Ask.{Ask}
use Rattle.page_tasks.specs.declared.task.Halt.TheVariants as halt
use Rattle.page_tasks.proofs.going.asks.Goals as goal

pub returns : goal.returns
returns c = ap (λ (question : Ask). halt.Asks question) c.in_ok-held.ensures
