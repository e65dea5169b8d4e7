use Rattle.lua_acts.proofs.protected.xpcall_answer.Goals as goal

pub returns-in-Goes : goal.returns-in-Goes
returns-in-Goes c = rw c.in-Goes.is (c.succeeded.ensures c.args.left.now)

pub returns-in-Jumps : goal.returns-in-Jumps
returns-in-Jumps c = rw c.in-Jumps.is c.handed.ensures
