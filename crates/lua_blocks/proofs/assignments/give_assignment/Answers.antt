use Rattle.lua_state.specs.LuaStackLists.{given_values}
use Rattle.lua_state.proofs.LuaStackOpenings.{first_of}
use Rattle.lua_blocks.proofs.Worlds.{for_each}
use Rattle.lua_blocks.proofs.assignments.give_assignment.Goals as goal

pub give_first-requires-clause-first : goal.give_first-requires-clause-first
give_first-requires-clause-first c = first_of c.args.store.now (given_values c.args.values) c.first-first.result c.first-first.ensures c.requires.values

pub returns : goal.returns
returns c = for_each _ c.give_first.result (λ world. c.give_first.ensures world c.args.left.now)
