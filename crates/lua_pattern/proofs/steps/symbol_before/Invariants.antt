use Rattle.std.proofs.Common.{◌≡◌}
use Rattle.lua_pattern.specs.Way.{code_before}
use Rattle.lua_pattern.proofs.steps.symbol_before.Given as goal

abbrev pub invariant-places : goal.invariant-places
invariant-places g l = code_before g.A.Alphabet.letters l.subject l.at ≡ code_before g.A.Alphabet.letters l.subject l.place

abbrev pub decreases-places : goal.decreases-places
decreases-places g l = l.place
