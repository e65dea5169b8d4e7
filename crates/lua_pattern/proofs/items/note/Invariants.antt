use Rattle.std.proofs.Common.{length}
use Rattle.lua_pattern.proofs.RunLemmas.{NotedBehind}
use Rattle.lua_pattern.proofs.items.note.Given as goal

abbrev pub invariant-items : goal.invariant-items
invariant-items l = NotedBehind l.run l.items l.left l.next l.noted

abbrev pub decreases-items : goal.decreases-items
decreases-items l = length l.left
