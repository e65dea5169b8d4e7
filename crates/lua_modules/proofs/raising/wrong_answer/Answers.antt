use Rattle.lua_modules.proofs.raising.wrong_answer.Goals as goal

pub returns : goal.returns
returns c = λ l. c.in_ok-turn.ensures l
