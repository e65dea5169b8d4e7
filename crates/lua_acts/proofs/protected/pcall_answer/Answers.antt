use Rattle.lua_acts.proofs.protected.pcall_answer.Goals as goal

pub returns-in-Goes : goal.returns-in-Goes
returns-in-Goes c = λ l. rw c.in-Goes.is (c.succeeded.ensures l)

pub returns-in-Jumps : goal.returns-in-Jumps
returns-in-Jumps c = λ l. rw c.in-Jumps.is (c.caught.ensures l)
