use Rattle.page_points.proofs.Moves.{root_is_seen}
use Rattle.page_points.proofs.stack.root_is_seen.Goals as goal

pub returns : goal.returns
returns c = λ wiki page root full top now work e g is h over. root_is_seen wiki page root full top now work e g is h over
