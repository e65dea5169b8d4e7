use Rattle.std.proofs.Common.{◌≡◌, ◌++◌}
use Rattle.lua_print.specs.Layout.{indent}
use Rattle.lua_print.proofs.laying.put_indent.Given as goal

abbrev pub invariant-loop-done : goal.invariant-loop-done
invariant-loop-done l = l.made.items ≡ l.initial.made.items ++ indent l._done
