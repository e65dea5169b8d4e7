use Rattle.lua_loops.proofs.endings.end_body.Goals as goal

pub returns : goal.returns
returns c = λ l. c.wait.ensures l
