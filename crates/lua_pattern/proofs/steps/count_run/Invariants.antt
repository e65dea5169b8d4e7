use Rattle.std.proofs.Common.{◌≡◌, ◌+◌, ◌-◌, ◌<◌, ◌≤◌, drop, length}
use Rattle.lua_pattern.specs.Way.{run, comparisons}
use Rattle.lua_pattern.proofs.steps.count_run.Given as goal

abbrev pub invariant-symbols : goal.invariant-symbols
invariant-symbols g l =
    let a = g.A.Alphabet.letters in
    record {
      ran : (l.place - l.at) + run a l.single (a.symbols (drop l.place l.subject)) ≡ run a l.single (a.symbols (drop l.at l.subject));
      compares : (l.initial.left - l.left) + comparisons a l.single (a.symbols (drop l.place l.subject)) ≡ comparisons a l.single (a.symbols (drop l.at l.subject));
      fewer : l.left ≤ l.initial.left;
      forward : l.at ≤ l.place;
      inside : l.place - l.at ≤ length l.subject - l.at;
      paid : l.at < l.place → l.left < l.initial.left;
    }

abbrev pub decreases-symbols : goal.decreases-symbols
decreases-symbols g l = length l.subject - l.place
