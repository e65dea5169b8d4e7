use Rattle.lua_state.specs.LuaStackLists.{given_values}
use Rattle.lua_state.proofs.LuaStackOpenings.{first_of}
use Rattle.lua_evals.proofs.constructors.item.Goals as goal

pub set_item-requires-clause-first : goal.set_item-requires-clause-first
set_item-requires-clause-first c = first_of c.args.store.now (given_values c.args.values) c.first-first.result c.first-first.ensures c.requires.values

pub returns : goal.returns
returns c = c.set_item.ensures c.args.values c.first-first.ensures
