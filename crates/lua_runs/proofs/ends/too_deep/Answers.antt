use Rattle.lua_runs.proofs.ends.too_deep.Goals as goal

pub returns : goal.returns
returns c = λ l. c.in_ok-turn.ensures l
