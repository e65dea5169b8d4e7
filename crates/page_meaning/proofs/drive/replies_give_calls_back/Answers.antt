use Rattle.page_meaning.proofs.OverLaws.{replies_give_calls_back}
use Rattle.page_meaning.proofs.drive.replies_give_calls_back.Goals as goal

-- src/drive.rt
pub returns : goal.returns
returns c = replies_give_calls_back
