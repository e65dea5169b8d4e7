use Rattle.lua_operators.proofs.arithmetic.negate.Goals as goal

pub returns-in-Some-clause-of : goal.returns-in-Some-clause-of
returns-in-Some-clause-of c = (c.number_or_fail.ensures.of c.args.store.now, c.requires.frames)
