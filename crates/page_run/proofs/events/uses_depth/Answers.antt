-- The law, at the types of the function.
use Rattle.page_run.proofs.EventLaws.{depth_is}
use Rattle.page_run.proofs.events.uses_depth.Goals as goal

pub returns : goal.returns
returns g c = λ meaning beyond nr. depth_is meaning beyond nr
