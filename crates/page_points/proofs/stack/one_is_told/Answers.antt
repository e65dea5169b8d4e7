use Rattle.page_points.proofs.Moves.{one_is_told}
use Rattle.page_points.proofs.stack.one_is_told.Goals as goal

pub returns : goal.returns
returns c = λ wiki page. one_is_told wiki page
