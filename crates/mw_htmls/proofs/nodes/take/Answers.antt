use Rattle.std.proofs.Common.{arith}
use Rattle.lua_strings.specs.LuaStoreSeen.{seen_node}
use Rattle.mw_htmls.proofs.nodes.take.Goals as goal

pub swap_markup-requires-clause-node : goal.swap_markup-requires-clause-node
swap_markup-requires-clause-node c = c.new_node.ensures.of c.args.store.now c.markup.ensures.of.name tt

pub returns-clause-node : goal.returns-clause-node
returns-clause-node c = rw c.swap_markup.ensures.set c.swap_markup.ensures.was

pub returns-clause-taken : goal.returns-clause-taken
returns-clause-taken c = (seen_node c.args.store.now.texts c.new_node.result, c.swap_markup.ensures.set)

pub returns-clause-id : goal.returns-clause-id
returns-clause-id c = let le = c.swap_markup.ensures.later.markup in omega (arith, c.requires, le)
