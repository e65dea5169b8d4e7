use Rattle.std.proofs.Common.{◌≡◌, drop}
use Rattle.lua_lexer.specs.Lexis.{before_closing}
use Rattle.lua_lexer.proofs.Steps.{later}
use Rattle.lua_print.proofs.fronts.before_closing.Given as goal

abbrev pub invariant-loop-i : goal.invariant-loop-i
invariant-loop-i l = later l.i (before_closing l.level (drop l.i l.text)) ≡ before_closing l.level l.text
