use Rattle.page_points.proofs.Moves.{one_ends}
use Rattle.page_points.proofs.stack.one_ends.Goals as goal

pub returns : goal.returns
returns c = λ wiki page. one_ends wiki page
