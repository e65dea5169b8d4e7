use Rattle.std.proofs.Common.{◌≡◌, ◌++◌, length}
use Rattle.std.specs.Prelude.{flat_map}
use Rattle.lua_code.specs.LuaMeaningStart.{escape_byte}
use Rattle.lua_runs.proofs.html.escaped.Given as goal

-- what is made, and what is left
abbrev pub invariant-bytes : goal.invariant-bytes
invariant-bytes l = l.made.items ++ flat_map escape_byte l.rest ≡ flat_map escape_byte l.initial.rest

abbrev pub decreases-bytes : goal.decreases-bytes
decreases-bytes l = length l.rest
