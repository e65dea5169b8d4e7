use Rattle.std.proofs.Common.{◌≡◌, nat_le, length}
use Rattle.lua_pattern.specs.Sizes.{captures_bytes}
use Rattle.lua_string.proofs.finding.captures_fit.Given as goal

abbrev pub invariant-captures : goal.invariant-captures
invariant-captures l = nat_le (captures_bytes l.rest) l.left ≡ nat_le (captures_bytes l.initial.rest) l.initial.left

abbrev pub decreases-captures : goal.decreases-captures
decreases-captures l = length l.rest
