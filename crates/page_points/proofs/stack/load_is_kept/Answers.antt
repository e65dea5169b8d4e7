use Rattle.page_points.proofs.Loads.{load_is_kept}
use Rattle.page_points.proofs.stack.load_is_kept.Goals as goal

pub returns : goal.returns
returns c = λ wiki page. load_is_kept wiki page
