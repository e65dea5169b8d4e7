use Rattle.std.proofs.Common.{length}
use Rattle.lua_code.specs.Seen.{expressions_seen}
use Rattle.lua_rows.proofs.Arguments.{Behind}
use Rattle.lua_rows.proofs.ready.read_arguments.Given as goal

-- what is left goes behind the values that were read
abbrev pub invariant-items : goal.invariant-items
invariant-items l = Behind l.fn.store l.fn.state (expressions_seen l.fn.arguments) (expressions_seen l.left) l.initial.values.items l.values.items l.nodes

abbrev pub decreases-items : goal.decreases-items
decreases-items l = length l.left
