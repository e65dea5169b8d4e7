use Rattle.std.proofs.Common.{◌≡◌, map, drop, string_bytes}
use Rattle.wiki_words.specs.Items.{items_from, items_of}
use Rattle.wiki_words.proofs.ItemLemmas.{behind}
use Rattle.wiki_words.proofs.items.items_of.Given as goal

abbrev pub invariant-loop-word : goal.invariant-loop-word
invariant-loop-word l = behind l.items.items (items_from l.reading (map string_bytes (drop l.word-index l.words))) ≡ items_of (map string_bytes l.words)
