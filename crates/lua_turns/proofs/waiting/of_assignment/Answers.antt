use Rattle.lua_turns.proofs.waiting.of_assignment.Goals as goal

pub returns-in-AssignNow : goal.returns-in-AssignNow
returns-in-AssignNow c = λ fs h. c.of_targets.ensures fs (rw c.in-AssignNow.is at h)

pub returns-in_default : goal.returns-in_default
returns-in_default c = λ fs h. tt
