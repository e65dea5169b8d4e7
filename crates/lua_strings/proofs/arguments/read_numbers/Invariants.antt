use Rattle.std.proofs.Common.{◌≡◌, length}
use Rattle.lua_basic.specs.LuaMeaningScope.{Bytes}
use Rattle.lua_basic.specs.Seen.{values_seen, AllOf}
use Rattle.lua_basic.specs.LuaMeaningChecks.{numbers_from}
use Rattle.lua_strings.proofs.Numbered.{behind}
use Rattle.lua_strings.proofs.arguments.read_numbers.Given as goal

abbrev pub invariant-values : goal.invariant-values
invariant-values l = AllOf l.store l.rest × ((function : Bytes) → behind l.numbers (numbers_from l.n function (values_seen l.store.texts l.rest)) ≡ numbers_from 1 function (values_seen l.store.texts l.args))

abbrev pub decreases-values : goal.decreases-values
decreases-values l = length l.rest
