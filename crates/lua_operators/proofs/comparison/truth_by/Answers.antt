use Rattle.lua_operators.proofs.comparison.truth_by.Goals as goal

pub returns-then-is_nil-clause-of : goal.returns-then-is_nil-clause-of
returns-then-is_nil-clause-of c = (c.answer.ensures.of c.args.store.now, c.requires.frames)
