use Rattle.lua_runs.proofs.ends.no_string.Goals as goal

pub returns : goal.returns
returns c = λ l. c.in_ok-turn.ensures l
