use Rattle.std.proofs.Common.{◌≡◌, ◌||◌, ℕ, length}
use Rattle.regex_class.specs.Ranges.{in_ranges}
use Rattle.lua_pattern.specs.Letters.{Letters}
use Rattle.lua_pattern.specs.Sets.{in_any}
use Rattle.lua_pattern.proofs.prepared.split.Given as goal

-- What is put, with what is left, holds what the whole set holds.
abbrev pub invariant-parts : goal.invariant-parts
invariant-parts l = (a : Letters) (c : ℕ) → ((in_ranges l.ranges.items c || in_any a l.classes c) || in_any a l.left c) ≡ in_any a l.initial.left c

abbrev pub decreases-parts : goal.decreases-parts
decreases-parts l = length l.left
