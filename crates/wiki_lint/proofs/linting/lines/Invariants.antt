use Rattle.std.proofs.Common.{◌≡◌, ◌++◌, drop}
use Rattle.wiki_lint.specs.Linting.{lines}
use Rattle.wiki_lint.proofs.linting.lines.Given as goal

abbrev pub invariant-loop-name : goal.invariant-loop-name
invariant-loop-name l = l.text.items ++ lines (drop l.name-index l.names) ≡ lines l.names
