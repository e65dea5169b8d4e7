use Rattle.lua_state.proofs.codes.Codes.remember.Goals as goal

pub returns-clause-codes : goal.returns-clause-codes
returns-clause-codes c = λ s h k. record { all = h.all; recent = k; held = h.held }
