use Rattle.std.proofs.Common.{subst, sym, Ok}
use Rattle.mw_htmls.specs.Tabled.{GivesOrRaises}
use Rattle.mw_htmls.proofs.tabled.give_or_raise.Goals as goal

pub returns-in_ok-values-in-None : goal.returns-in_ok-values-in-None
returns-in_ok-values-in-None c = subst (λ f. GivesOrRaises c.args.id f (Ok c.in_ok-values-in-None.values)) (sym c.in-None.is) c.in_ok-values-in-None.ensures
