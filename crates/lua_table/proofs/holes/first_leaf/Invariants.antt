use Rattle.std.proofs.Common.{◌-◌}
use Rattle.lua_table.specs.Holes.{LeadsOn}
use Rattle.lua_table.proofs.holes.first_leaf.Given as goal

abbrev pub invariant-loop-node : goal.invariant-loop-node
invariant-loop-node l = LeadsOn l.nodes.items l.width l.node

abbrev pub decreases-loop-node : goal.decreases-loop-node
decreases-loop-node l = l.width - l.node
