use Rattle.std.proofs.Common.{◌≡◌, ◌+◌, ◌-◌, ◌≤◌, drop, length}
use Rattle.lua_pattern.specs.Way.{closing}
use Rattle.lua_pattern.proofs.Closing.{later}
use Rattle.lua_pattern.proofs.steps.close.Given as goal

abbrev pub invariant-symbols : goal.invariant-symbols
invariant-symbols g l =
    let a = g.A.Alphabet.letters in
    record {
      closes : later l.count (l.place - l.at) (closing l.begin l.shut l.depth (a.symbols (drop l.place l.subject))) ≡ closing l.begin l.shut 0 (a.symbols (drop l.at l.subject));
      counts : l.count + length (a.symbols (drop l.place l.subject)) ≡ length (a.symbols (drop l.at l.subject));
      forward : l.at ≤ l.place;
      inside : l.place - l.at ≤ length l.subject - l.at;
      few : l.count ≤ l.place - l.at;
      deep : l.depth ≤ l.count;
    }

abbrev pub decreases-symbols : goal.decreases-symbols
decreases-symbols g l = length l.subject - l.place
