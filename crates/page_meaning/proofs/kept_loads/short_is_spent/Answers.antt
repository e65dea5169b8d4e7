use Rattle.page_meaning.proofs.KeptLaws.{short_is_spent}
use Rattle.page_meaning.proofs.kept_loads.short_is_spent.Goals as goal

-- src/kept_loads.rt
pub returns : goal.returns
returns c = short_is_spent
