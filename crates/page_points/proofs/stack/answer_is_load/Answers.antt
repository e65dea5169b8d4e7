use Rattle.page_points.proofs.Loads.{answer_is_load}
use Rattle.page_points.proofs.stack.answer_is_load.Goals as goal

pub returns : goal.returns
returns c = λ wiki page. answer_is_load wiki page
