use Rattle.std.proofs.Common.{◌≡◌, ◌++◌}
use Rattle.wiki_pages.proofs.tables.listed.Given as goal

abbrev pub invariant-loop-hash : goal.invariant-loop-hash
invariant-loop-hash l = l.listed.items ++ l.hash-iterator ≡ l.cases.entries
