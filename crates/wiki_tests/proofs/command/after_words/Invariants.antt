use Rattle.std.proofs.Common.{◌≡◌, drop, map}
use Rattle.std.specs.Prelude.{string_bytes}
use Rattle.wiki_tests.specs.Command.{after_words, unread, AreWithin}
use Rattle.wiki_tests.proofs.command.after_words.Given as goal

abbrev pub invariant-loop-word : goal.invariant-loop-word
invariant-loop-word l = record { read : after_words l.reading (map string_bytes (drop l.word-index l.words)) ≡ after_words unread (map string_bytes l.words); within : AreWithin l.reading.settings }
