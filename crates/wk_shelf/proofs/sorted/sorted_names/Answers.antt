use Rattle.wk_shelf.proofs.OrderLemmas.{in_order}
use Rattle.wk_shelf.proofs.sorted.sorted_names.Goals as goal

pub returns-clause-names : goal.returns-clause-names
returns-clause-names g c =
    in_order _ _ _ _ c.in_ok-names.ensures.names c.sort_unstable.ensures.permutation c.sort_unstable.ensures.sorted
