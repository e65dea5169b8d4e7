use Rattle.page_points.proofs.Moves.{page_begins}
use Rattle.page_points.proofs.stack.page_begins.Goals as goal

pub returns : goal.returns
returns c = λ wiki page. page_begins wiki page
