use Rattle.std.proofs.Common.{◌≡◌, ◌+◌, ◌^◌, ◌<◌, length}
use Rattle.lua_format.specs.Layouts.{quoted_bytes}
use Rattle.lua_format.specs.Lengths.{saturated}
use Rattle.lua_format.proofs.layout.quoted_len.Given as goal

abbrev pub invariant-bytes : goal.invariant-bytes
invariant-bytes l =
    (saturated (l.len + length (quoted_bytes l.rest)) ≡ saturated (2 + length (quoted_bytes l.initial.rest))) × (l.len < 2 ^ 64)

abbrev pub decreases-bytes : goal.decreases-bytes
decreases-bytes l = length l.rest
