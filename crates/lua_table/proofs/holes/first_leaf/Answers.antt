use Rattle.std.proofs.Common.{rules, arith, ◌≡◌, ◌+◌, ◌<◌, true, false, get_or, length}
use Rattle.lua_table.proofs.TreeLemmas.{read, leads-left, leads-right, leads-first}
use Rattle.lua_table.proofs.holes.first_leaf.Goals as goal

pub loop-node-preserved-then-index : goal.loop-node-preserved-then-index
loop-node-preserved-then-index c =
    let within : c.loop-node.node + c.loop-node.node < length c.args.nodes.now.items = omega (arith, c.requires.whole.size, c.loop-node-test.true) in
    let is = read c.args.nodes.now.items (c.loop-node.node + c.loop-node.node) c.index.result.now within (search rules) in
    let marked : get_or c.args.nodes.now.items (c.loop-node.node + c.loop-node.node) false ≡ true = search (rules, is) in
    leads-left c.args.nodes.now.items c.args.width c.requires.whole c.loop-node.node c.loop-node.invariant c.loop-node-test.true marked

pub loop-node-preserved : goal.loop-node-preserved
loop-node-preserved c =
    let within : c.loop-node.node + c.loop-node.node < length c.args.nodes.now.items = omega (arith, c.requires.whole.size, c.loop-node-test.true) in
    let is = read c.args.nodes.now.items (c.loop-node.node + c.loop-node.node) c.index.result.now within (search rules) in
    let unmarked : get_or c.args.nodes.now.items (c.loop-node.node + c.loop-node.node) false ≡ false = search (rules, is) in
    leads-right c.args.nodes.now.items c.args.width c.requires.whole c.loop-node.node c.loop-node.invariant c.loop-node-test.true unmarked

pub returns-clause-first : goal.returns-clause-first
returns-clause-first c = leads-first c.args.nodes.now.items c.args.width c.requires.whole c.loop-node.node c.loop-node.invariant
