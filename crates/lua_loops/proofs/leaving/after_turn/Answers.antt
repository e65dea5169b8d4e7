use Rattle.lua_loops.proofs.leaving.after_turn.Goals as goal

pub returns-in-Broke-clause-of : goal.returns-in-Broke-clause-of
returns-in-Broke-clause-of c = λ s h. c.nothing.ensures.of s
