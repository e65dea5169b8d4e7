use Rattle.page_points.proofs.Moves.{page_ends}
use Rattle.page_points.proofs.stack.page_ends.Goals as goal

pub returns : goal.returns
returns c = λ wiki page. page_ends wiki page
