use Rattle.std.proofs.Common.{refl}
use Rattle.page_tasks.proofs.going.move_halt.Goals as goal

pub returns-in-Text : goal.returns-in-Text
returns-in-Text c = rw c.in-Text.is refl

pub returns-in-Invoke : goal.returns-in-Invoke
returns-in-Invoke c = rw c.in-Invoke.is c.invokes.ensures
