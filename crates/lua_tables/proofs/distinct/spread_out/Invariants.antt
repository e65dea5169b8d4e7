use Rattle.std.proofs.Common.{◌≡◌, map, take}
use Rattle.lua_tables.specs.Repeated.{repeated, named_values}
use Rattle.lua_tables.proofs.distinct.spread_out.Given as goal

abbrev pub invariant-texts : goal.invariant-texts
invariant-texts l = l.values ≡ repeated (map named_values (take l.place l.named))
