use Rattle.page_meaning.proofs.OverLaws.{expansions_come_to_texts}
use Rattle.page_meaning.proofs.drive.expansions_come_to_texts.Goals as goal

-- src/drive.rt
pub returns : goal.returns
returns c = expansions_come_to_texts
