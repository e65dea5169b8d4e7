use Rattle.mw_html.proofs.Renumbered.{stands_is_rendered}
use Rattle.mw_html.proofs.laws.stands_is_rendered.Goals as goal

pub returns : goal.returns
returns g c = stands_is_rendered g.X.Content.stands_for
