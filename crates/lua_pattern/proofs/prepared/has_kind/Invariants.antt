use Rattle.std.proofs.Common.{◌≡◌, ℕ, true, length}
use Rattle.lua_pattern.specs.Letters.{Letters}
use Rattle.lua_pattern.specs.Sets.{in_any}
use Rattle.lua_pattern.proofs.prepared.has_kind.Given as goal

abbrev pub invariant-parts : goal.invariant-parts
invariant-parts l = (a : Letters) (c : ℕ) → in_any a l.left c ≡ true → in_any a l.initial.left c ≡ true

abbrev pub decreases-parts : goal.decreases-parts
decreases-parts l = length l.left
