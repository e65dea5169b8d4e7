use Rattle.lua_turns.proofs.statements.wait_for_one.Goals as goal

pub returns : goal.returns
returns c = rw c.new-values.ensures at c.push.ensures.ok
