use Rattle.lua_turns.proofs.waiting.of_operator.Goals as goal

pub returns-in-Concatenate : goal.returns-in-Concatenate
returns-in-Concatenate c = λ fs h. rw c.in-Concatenate.is at h

pub returns-in_default : goal.returns-in_default
returns-in_default c = λ fs h. h
