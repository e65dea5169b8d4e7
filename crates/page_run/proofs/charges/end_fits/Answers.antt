-- The law, at the types of the function.
use Rattle.page_run.proofs.FitLaws.{end_fits}
use Rattle.page_run.proofs.charges.end_fits.Goals as goal

pub returns : goal.returns
returns g c = λ meaning. end_fits meaning
