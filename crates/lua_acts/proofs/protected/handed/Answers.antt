use Rattle.lua_acts.proofs.protected.handed.Goals as goal

pub returns-in-Returned : goal.returns-in-Returned
returns-in-Returned c = rw c.in-Returned.is (c.pass.ensures c.args.left.now)

pub returns-in-Broke : goal.returns-in-Broke
returns-in-Broke c = rw c.in-Broke.is (c.pass-in-Broke.ensures c.args.left.now)
