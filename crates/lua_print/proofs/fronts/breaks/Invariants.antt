use Rattle.std.proofs.Common.{◌≡◌, ◌+◌, ◌≤◌, drop}
use Rattle.lua_lexer.specs.Lexis.{breaks_after}
use Rattle.lua_print.proofs.fronts.breaks.Given as goal

abbrev pub invariant-loop-i : goal.invariant-loop-i
invariant-loop-i l = record { total : l.count + breaks_after l.passed (drop l.i l.text) ≡ breaks_after 0 l.text; few : l.count ≤ l.i; short : l.passed ≤ 1 }
