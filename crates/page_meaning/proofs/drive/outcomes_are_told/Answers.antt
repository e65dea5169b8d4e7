use Rattle.page_meaning.proofs.OutcomeLaws.{outcomes_are_told}
use Rattle.page_meaning.proofs.drive.outcomes_are_told.Goals as goal

-- src/drive.rt
pub returns : goal.returns
returns c = outcomes_are_told
