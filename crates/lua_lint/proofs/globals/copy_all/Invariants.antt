use Rattle.std.proofs.Common.{◌≡◌, ◌++◌, map}
use Rattle.lua_lint.specs.Reading.{names_in}
use Rattle.lua_lint.proofs.globals.copy_all.Given as goal

abbrev pub invariant-loop-name : goal.invariant-loop-name
invariant-loop-name l = l.copies ≡ l.initial.copies ++ names_in (map (λ n. n.now) l.yielded)
