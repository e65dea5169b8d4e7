use Rattle.std.proofs.Common.{◌≡◌, ◌++◌, length, map}
use Rattle.lua_basic.specs.Seen.{values_seen, AllOf}
use Rattle.lua_basic.specs.LuaMeaningFormats.{format_value}
use Rattle.lua_strings.proofs.formatting.format_values.Given as goal

abbrev pub invariant-values : goal.invariant-values
invariant-values l = AllOf l.store l.rest × (l.made ++ map format_value (values_seen l.store.texts l.rest) ≡ map format_value (values_seen l.store.texts l.values))

abbrev pub decreases-values : goal.decreases-values
decreases-values l = length l.rest
