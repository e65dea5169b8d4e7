use Rattle.lua_acts.proofs.walks.three_answer.Goals as goal

pub returns-in-Goes : goal.returns-in-Goes
returns-in-Goes c = λ l. rw c.in-Goes.is (c.three_of.ensures l)

pub returns-in-Jumps : goal.returns-in-Jumps
returns-in-Jumps c = λ l. rw c.in-Jumps.is (c.pass.ensures l)
