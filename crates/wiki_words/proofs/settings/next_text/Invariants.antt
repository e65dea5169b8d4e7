use Rattle.std.proofs.Common.{◌≡◌, length}
use Rattle.std.specs.Prelude.{Some}
use Rattle.wiki_words.specs.Command.{texts_for}
use Rattle.wiki_words.proofs.settings.next_text.Given as goal

abbrev pub invariant-loop-rest : goal.invariant-loop-rest
invariant-loop-rest l = texts_for (Some l.name) l.rest ≡ texts_for (Some l.name) l.items

abbrev pub decreases-loop-rest : goal.decreases-loop-rest
decreases-loop-rest l = length l.rest
