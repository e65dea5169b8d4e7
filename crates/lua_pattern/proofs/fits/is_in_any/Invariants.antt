use Rattle.std.proofs.Common.{◌≡◌, length}
use Rattle.lua_pattern.specs.Sets.{in_any}
use Rattle.lua_pattern.proofs.fits.is_in_any.Given as goal

abbrev pub invariant-loop-left : goal.invariant-loop-left
invariant-loop-left g l = in_any g.A.Alphabet.letters l.left l.symbol ≡ in_any g.A.Alphabet.letters l.initial.left l.symbol

abbrev pub decreases-loop-left : goal.decreases-loop-left
decreases-loop-left g l = length l.left
