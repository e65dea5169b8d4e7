use Rattle.std.proofs.Common.{◌≡◌, ◌-◌, ◌≤◌, length, drop}
use Rattle.lua_pattern.specs.Way.{first_of, answer_costs}
use Rattle.lua_pattern.proofs.search.first_start.Given as goal

abbrev pub invariant-starts : goal.invariant-starts
invariant-starts g l =
    let a = g.A.Alphabet.letters in
    record {
      fewer : l.left ≤ l.initial.left;
      same : first_of a l.items l.subject (a.symbols (drop l.from l.subject)) l.from
          ≡ answer_costs (l.initial.left - l.left) (first_of a l.items l.subject (a.symbols (drop l.start l.subject)) l.start);
    }

abbrev pub decreases-starts : goal.decreases-starts
decreases-starts g l = length l.subject - l.start
