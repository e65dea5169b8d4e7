use Rattle.mw_htmls.proofs.Settled.{drop_index}
use Rattle.mw_htmls.proofs.lists.pair_at.Goals as goal

pub returns : goal.returns
returns c = drop_index c.args.pairs.now c.args.place _ c.requires
