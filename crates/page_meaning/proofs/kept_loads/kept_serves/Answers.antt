use Rattle.page_meaning.proofs.KeptLaws.{kept_serves}
use Rattle.page_meaning.proofs.kept_loads.kept_serves.Goals as goal

-- src/kept_loads.rt
pub returns : goal.returns
returns c = kept_serves
