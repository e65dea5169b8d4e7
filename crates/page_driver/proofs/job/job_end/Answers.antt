use Rattle.std.proofs.Common.{refl}
use Rattle.page_driver.proofs.job.job_end.Goals as goal

pub returns-in-Ok : goal.returns-in-Ok
returns-in-Ok c = (c.in-Ok.reply, c.in-Ok.is, c.outcome_in-outcome.ensures, refl)
