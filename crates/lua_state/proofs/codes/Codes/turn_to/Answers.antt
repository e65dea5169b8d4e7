use Rattle.lua_state.proofs.codes.Codes.turn_to.Goals as goal

pub returns-in-Some-clause-codes : goal.returns-in-Some-clause-codes
returns-in-Some-clause-codes c = λ s h. c.remember.ensures.codes s h (rw c.in-Some.is at (c.find.ensures s h))
