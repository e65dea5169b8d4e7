use Rattle.std.proofs.Common.{ap}
use Rattle.mw_frame.specs.declared.scene.Job.{Job}
use Rattle.page_tasks.specs.declared.task.Halt.TheVariants as halt
use Rattle.page_tasks.proofs.going.invokes.Goals as goal

pub returns : goal.returns
returns c = ap (λ (job : Job). halt.Invokes job) c.in_ok-held.ensures
