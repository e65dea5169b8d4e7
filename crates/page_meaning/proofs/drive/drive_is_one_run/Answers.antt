use Rattle.page_meaning.proofs.DriveLaws.{drive_is_one_run}
use Rattle.page_meaning.proofs.drive.drive_is_one_run.Goals as goal

-- src/drive.rt
pub returns : goal.returns
returns c = drive_is_one_run
