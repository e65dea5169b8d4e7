use Rattle.std.proofs.Common.{◌≡◌, ◌+◌, drop}
use Rattle.std.specs.Prelude.{not}
use Rattle.std.specs.List.{prefix_len}
use Rattle.lua_lexer.specs.Lexis.{is_break}
use Rattle.lua_print.proofs.fronts.line_run.Given as goal

abbrev pub invariant-loop-c : goal.invariant-loop-c
invariant-loop-c l = record { here : l.n ≡ l.c-index; total : l.n + prefix_len (λ c. not (is_break c)) (drop l.c-index l.text) ≡ prefix_len (λ c. not (is_break c)) l.text }
