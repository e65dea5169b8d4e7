use Rattle.page_meaning.proofs.KeptLaws.{loads_are_covered}
use Rattle.page_meaning.proofs.kept_loads.loads_are_covered.Goals as goal

-- src/kept_loads.rt
pub returns : goal.returns
returns c = loads_are_covered
