use Rattle.std.proofs.Common.{length}
use Rattle.lua_code.specs.Seen.{expressions_seen}
use Rattle.lua_strides.proofs.Readings.{Gathers}
use Rattle.lua_strides.proofs.reading.read_all.Given as goal

-- what is left goes behind the values that were read
abbrev pub invariant-items : goal.invariant-items
invariant-items l = Gathers l.fn.store l.fn.state (expressions_seen l.fn.list) (expressions_seen l.left) l.values l.nodes

abbrev pub decreases-items : goal.decreases-items
decreases-items l = length l.left
