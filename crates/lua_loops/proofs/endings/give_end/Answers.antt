use Rattle.lua_loops.proofs.Worlds.{for_each}
use Rattle.lua_loops.proofs.endings.give_end.Goals as goal

pub returns : goal.returns
returns c = for_each _ c.give_first.result (λ world. c.give_first.ensures world)
