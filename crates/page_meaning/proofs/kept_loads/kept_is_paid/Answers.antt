use Rattle.page_meaning.proofs.PaidLaws.{kept_is_paid}
use Rattle.page_meaning.proofs.kept_loads.kept_is_paid.Goals as goal

-- src/kept_loads.rt
pub returns : goal.returns
returns c = kept_is_paid
