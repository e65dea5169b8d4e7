use Rattle.std.proofs.Common.{◌≡◌, drop}
use Rattle.std.specs.Map.{lookup}
use Rattle.lua_table.proofs.entries.value_among.Given as goal

abbrev pub invariant-loop-at : goal.invariant-loop-at
invariant-loop-at g l = lookup (g.V.PartialEq.eq l.key) (drop l.at l.rest.entries) ≡ lookup (g.V.PartialEq.eq l.key) l.rest.entries
