use Rattle.page_meaning.proofs.OverLaws.{runs_come_to_an_end}
use Rattle.page_meaning.proofs.drive.runs_come_to_an_end.Goals as goal

-- src/drive.rt
pub returns : goal.returns
returns c = runs_come_to_an_end
