use Rattle.std.proofs.Common.{◌≡◌, ◌+◌, ◌≤◌, length}
use Rattle.lua_pattern.specs.Read.{read_from, begun}
use Rattle.lua_pattern.proofs.read.read_items.Given as goal

abbrev pub invariant-items : goal.invariant-items
invariant-items g l = record {
  same : read_from l.anchored (length l.body) l.body begun ≡ read_from l.anchored l.turns l.rest l.reading;
  fuel : length l.rest ≤ l.turns;
  room : l.reading.marks + length l.rest ≤ length l.body;
}

abbrev pub decreases-items : goal.decreases-items
decreases-items g l = length l.rest
