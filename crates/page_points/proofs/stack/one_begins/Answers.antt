use Rattle.page_points.proofs.Moves.{one_begins}
use Rattle.page_points.proofs.stack.one_begins.Goals as goal

pub returns : goal.returns
returns c = λ wiki page. one_begins wiki page
