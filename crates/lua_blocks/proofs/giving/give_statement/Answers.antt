use Rattle.lua_blocks.proofs.Worlds.{for_each}
use Rattle.lua_blocks.proofs.giving.give_statement.Goals as goal

pub returns : goal.returns
returns c = for_each _ c.go_on.result (λ world. c.go_on.ensures world)
