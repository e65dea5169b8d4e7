use Rattle.lua_arms.proofs.loops.counting.Goals as goal

pub returns-in-Some-number_in-2-clause-of : goal.returns-in-Some-number_in-2-clause-of
returns-in-Some-number_in-2-clause-of c = c.count_from.ensures.of c.args.store.now
