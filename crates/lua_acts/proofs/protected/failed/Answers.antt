use Rattle.lua_acts.proofs.protected.failed.Goals as goal

pub returns : goal.returns
returns c = λ l. rw c.in_ok-values.ensures at (c.give_all.ensures l)
