use Rattle.mw_texts.proofs.listing.list_values.Goals as goal

pub returns-clause-values : goal.returns-clause-values
returns-clause-values c = rw c.border_of.ensures.border at c.values_to.ensures.values
