use Rattle.lua_blocks.proofs.targets.refuse.Goals as goal

pub returns : goal.returns
returns c = λ l. c.raise.ensures l
