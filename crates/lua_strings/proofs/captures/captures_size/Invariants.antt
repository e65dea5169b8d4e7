use Rattle.std.proofs.Common.{◌≡◌, ◌+◌, length}
use Rattle.lua_pattern.specs.Sizes.{captures_bytes}
use Rattle.lua_strings.proofs.captures.captures_size.Given as goal

abbrev pub invariant-captures : goal.invariant-captures
invariant-captures l = l.size + captures_bytes l.rest ≡ captures_bytes l.captures

abbrev pub decreases-captures : goal.decreases-captures
decreases-captures l = length l.rest
