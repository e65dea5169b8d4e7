use Rattle.std.proofs.Common.{◌≡◌, ◌+◌, drop}
use Rattle.std.specs.List.{prefix_len}
use Rattle.lua_lexer.specs.WkBaseSpace.{is_white}
use Rattle.lua_print.proofs.fronts.space_run.Given as goal

abbrev pub invariant-loop-c : goal.invariant-loop-c
invariant-loop-c l = record { here : l.n ≡ l.c-index; total : l.n + prefix_len is_white (drop l.c-index l.text) ≡ prefix_len is_white l.text }
