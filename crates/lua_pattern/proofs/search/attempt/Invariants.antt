use Rattle.std.proofs.Common.{[], length}
use Rattle.lua_pattern.specs.Way.{way}
use Rattle.lua_pattern.specs.Search.{Follows, load}
use Rattle.lua_pattern.proofs.search.attempt.Given as goal

abbrev pub invariant-turns : goal.invariant-turns
invariant-turns g l = Follows g.A.Alphabet.letters l.items l.subject (way g.A.Alphabet.letters l.items l.subject l.from []) l.initial.left l.now l.left l.trail

abbrev pub decreases-turns : goal.decreases-turns
decreases-turns g l = load (length l.items) (length l.subject) l.now l.left l.trail
