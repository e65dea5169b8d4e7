use Rattle.lua_calls.proofs.waiting.text_answer.Goals as goal

pub returns-in-Goes : goal.returns-in-Goes
returns-in-Goes c = rw c.in-Goes.is c.text_given.ensures

pub returns : goal.returns
returns c = rw c.in-Jumps.is (c.wrong_answer.ensures c.args.left.now)
