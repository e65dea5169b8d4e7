use Rattle.std.proofs.Common.{◌≡◌, ◌++◌, drop}
use Rattle.lua_lexer.specs.Lexis.{line_feeds_after}
use Rattle.lua_lexer.proofs.brackets.with_line_feeds.Given as goal

abbrev pub invariant-loop-i : goal.invariant-loop-i
invariant-loop-i l = l.made.items ++ line_feeds_after l.passed (drop l.i l.text) ≡ line_feeds_after 0 l.text
