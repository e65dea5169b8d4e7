use Rattle.page_meaning.proofs.KeptLaws.{kept_is_fresh}
use Rattle.page_meaning.proofs.kept_loads.kept_is_fresh.Goals as goal

-- src/kept_loads.rt
pub returns : goal.returns
returns c = kept_is_fresh
