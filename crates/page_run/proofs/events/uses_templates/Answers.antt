-- The law, at the types of the function.
use Rattle.page_run.proofs.EventLaws.{templates_are}
use Rattle.page_run.proofs.events.uses_templates.Goals as goal

pub returns : goal.returns
returns g c = λ meaning beyond nr. templates_are meaning beyond nr
