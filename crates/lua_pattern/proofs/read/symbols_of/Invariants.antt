use Rattle.std.proofs.Common.{◌≡◌, ◌++◌, ◌-◌, drop, length}
use Rattle.lua_pattern.specs.Read.{codes}
use Rattle.lua_pattern.proofs.read.symbols_of.Given as goal

abbrev pub invariant-symbols : goal.invariant-symbols
invariant-symbols g l = l.symbols.items ++ codes g.A.Alphabet.letters (drop l.place l.bytes) ≡ codes g.A.Alphabet.letters l.bytes

abbrev pub decreases-symbols : goal.decreases-symbols
decreases-symbols g l = length l.bytes - l.place
