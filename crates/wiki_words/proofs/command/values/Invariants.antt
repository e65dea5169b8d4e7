use Rattle.std.proofs.Common.{◌≡◌, ◌++◌, map, drop}
use Rattle.std.specs.Prelude.{None}
use Rattle.wiki_words.specs.Command.{texts_for}
use Rattle.wiki_words.proofs.command.values.Given as goal

abbrev pub invariant-loop-item : goal.invariant-loop-item
invariant-loop-item l = map (λ text. text.now) l.values.items ++ texts_for None (drop l.item-index l.items) ≡ texts_for None l.items
