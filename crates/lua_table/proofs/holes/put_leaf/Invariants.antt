use Rattle.std.proofs.Common.{◌≡◌, drop}
use Rattle.lua_table.specs.Holes.{IsTreeAbove}
use Rattle.lua_table.proofs.holes.put_leaf.Given as goal

abbrev pub invariant-loop-node : goal.invariant-loop-node
invariant-loop-node l = IsTreeAbove l.node l.nodes.items l.width × (drop l.width l.nodes.items ≡ drop l.width l.initial.nodes.items)

abbrev pub decreases-loop-node : goal.decreases-loop-node
decreases-loop-node l = l.node
