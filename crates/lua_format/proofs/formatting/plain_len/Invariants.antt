use Rattle.std.proofs.Common.{◌≡◌, ◌≤◌, ℕ, List, length, take, drop}
use Rattle.lua_format.specs.declared.value.FormatValue.{FormatValue}
use Rattle.lua_format.specs.Format.{formatted, put}
use Rattle.lua_format.proofs.formatting.plain_len.Given as goal

abbrev pub invariant-bytes : goal.invariant-bytes
invariant-bytes l =
    (l.rest ≡ drop l.count l.initial.rest) × (l.count ≤ length l.initial.rest)
    × ((values : List FormatValue) (at : ℕ) → formatted values l.initial.rest at ≡ put (take l.count l.initial.rest) (formatted values (drop l.count l.initial.rest) at))

abbrev pub decreases-bytes : goal.decreases-bytes
decreases-bytes l = length l.rest
