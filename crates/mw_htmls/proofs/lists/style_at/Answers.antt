use Rattle.mw_htmls.proofs.Settled.{drop_index}
use Rattle.mw_htmls.proofs.lists.style_at.Goals as goal

pub returns : goal.returns
returns c = drop_index c.args.styles.now c.args.place _ c.requires
