use Rattle.page_meaning.proofs.DriveLaws.{replies_only_take}
use Rattle.page_meaning.proofs.drive.replies_only_take.Goals as goal

-- src/drive.rt
pub returns : goal.returns
returns c = replies_only_take
