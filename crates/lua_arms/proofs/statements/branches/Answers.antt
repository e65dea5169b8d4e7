use Rattle.lua_arms.proofs.statements.branches.Goals as goal

pub returns-in-None-other-clause-of : goal.returns-in-None-other-clause-of
returns-in-None-other-clause-of c = (c.nothing.ensures.of c.args.store.now, c.requires.frames)
