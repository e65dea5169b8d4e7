use Rattle.std.proofs.Common.{◌∙◌, ap}
use Rattle.page_meaning.specs.Told.{failure_text}
use Rattle.page_ground.proofs.ending.outcome_text.Goals as goal

pub returns-in_ok-shown-in-Failed : goal.returns-in_ok-shown-in-Failed
returns-in_ok-shown-in-Failed c = rw c.in-Failed.is (c.of_vec.ensures ∙ c.in_ok-shown-in-Failed.ensures ∙ ap failure_text c.as_slice-bytes.ensures)

pub returns-in_ok-text-in-Spent : goal.returns-in_ok-text-in-Spent
returns-in_ok-text-in-Spent c = rw c.in-Spent.is c.in_ok-text-in-Spent.ensures
