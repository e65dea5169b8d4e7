use Rattle.std.proofs.Common.{◌≡◌, ◌≤◌, drop}
use Rattle.lua_lexer.specs.Lexis.{body_after}
use Rattle.lua_lexer.proofs.Steps.{joined}
use Rattle.lua_lexer.proofs.strings.string_body.Given as goal

abbrev pub invariant-loop-i : goal.invariant-loop-i
invariant-loop-i l = record { whole : joined l.bytes.items l.i (body_after l.quote l.passed (drop l.i l.text)) ≡ body_after l.quote 0 l.text; short : l.passed ≤ 3 }
