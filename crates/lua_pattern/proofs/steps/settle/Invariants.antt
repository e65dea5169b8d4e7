use Rattle.std.proofs.Common.{◌≡◌, ℕ, ◌-◌, ◌≤◌, List}
use Rattle.lua_pattern.specs.Way.{Rest}
use Rattle.lua_pattern.specs.Trail.{downwards}
use Rattle.lua_pattern.proofs.steps.settle.Given as goal

abbrev pub invariant-places : goal.invariant-places
invariant-places g l = record {
  above : l.low ≤ l.place;
  below : l.place ≤ l.high;
  same : (rest : Rest) (marks : List ℕ) → downwards g.A.Alphabet.letters l.subject (l.high - l.low) rest l.low marks ≡ downwards g.A.Alphabet.letters l.subject (l.place - l.low) rest l.low marks;
}

abbrev pub decreases-places : goal.decreases-places
decreases-places g l = l.place
