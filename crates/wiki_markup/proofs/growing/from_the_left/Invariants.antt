use Rattle.std.proofs.Common.{◌≡◌, ◌++◌, map, reverse, vec_len}
use Rattle.wiki_markup.specs.Held.{turned}
use Rattle.wiki_markup.proofs.growing.from_the_left.Given as goal

abbrev pub invariant-loop-node : goal.invariant-loop-node
invariant-loop-node l = map (turned l.count) (reverse l.initial.left.items) ≡ l.nodes ++ map (turned l.count) (reverse l.left.items)

abbrev pub decreases-loop-node : goal.decreases-loop-node
decreases-loop-node l = vec_len l.left
