use Rattle.page_meaning.proofs.PointsLaws.{expansions_go_on}
use Rattle.page_meaning.proofs.drive.expansions_go_on.Goals as goal

-- src/drive.rt
pub returns : goal.returns
returns c = expansions_go_on
