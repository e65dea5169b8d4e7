use Rattle.std.proofs.Common.{◌∙◌}
use Rattle.page_ground.proofs.MachineEnds.{steps_text, calls_text}
use Rattle.page_ground.proofs.ending.spent_text.Goals as goal

pub returns-in_ok-text-in-Steps : goal.returns-in_ok-text-in-Steps
returns-in_ok-text-in-Steps c = rw c.in-Steps.is (c.in_ok-text-in-Steps.ensures ∙ steps_text)

pub returns-in_ok-text-in-Calls : goal.returns-in_ok-text-in-Calls
returns-in_ok-text-in-Calls c = rw c.in-Calls.is (c.in_ok-text-in-Calls.ensures ∙ calls_text)
