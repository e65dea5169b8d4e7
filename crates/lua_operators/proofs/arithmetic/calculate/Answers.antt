use Rattle.lua_operators.proofs.arithmetic.calculate.Goals as goal

pub returns-in-Some-number_in-clause-of : goal.returns-in-Some-number_in-clause-of
returns-in-Some-number_in-clause-of c = (c.number_or_fail.ensures.of c.args.store.now, c.requires.frames)
