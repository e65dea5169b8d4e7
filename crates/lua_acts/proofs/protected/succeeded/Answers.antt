use Rattle.lua_acts.proofs.protected.succeeded.Goals as goal

pub returns : goal.returns
returns c = λ l. rw c.in_ok-values.ensures at (rw c.in_ok-put.ensures.ok at (c.give_all.ensures l))
