use Rattle.std.proofs.Common.{◌≡◌, map, drop}
use Rattle.wiki_words.specs.Command.{titles_from}
use Rattle.wiki_words.proofs.ItemLemmas.{behind}
use Rattle.wiki_words.proofs.command.titles_from.Given as goal

abbrev pub invariant-loop-text : goal.invariant-loop-text
invariant-loop-text l = behind l.titles (titles_from (map (λ text. text.now) (drop l.text-index l.texts))) ≡ titles_from (map (λ text. text.now) l.texts)
