use Rattle.lua_gsubs.proofs.resuming.complete.Goals as goal

pub returns-clause-complete : goal.returns-clause-complete
returns-clause-complete c = rw c.behind.ensures at c.put_rest.ensures
