use Rattle.page_meaning.proofs.PointsLaws.{runs_go_on}
use Rattle.page_meaning.proofs.drive.runs_go_on.Goals as goal

-- src/drive.rt
pub returns : goal.returns
returns c = runs_go_on
