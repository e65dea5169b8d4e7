use Rattle.lua_modules.specs.LuaStackLists.{given_values}
use Rattle.lua_modules.proofs.LuaStackOpenings.{first_of}
use Rattle.lua_runs.proofs.frames.give_run.Goals as goal

pub give_first-requires-clause-first : goal.give_first-requires-clause-first
give_first-requires-clause-first c = first_of c.args.store.now (given_values c.args.values) c.first-first.result c.first-first.ensures c.requires.values

pub returns : goal.returns
returns c = λ world. c.in_ok-turn.ensures world
