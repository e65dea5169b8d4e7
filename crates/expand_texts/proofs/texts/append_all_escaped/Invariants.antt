use Rattle.std.proofs.Common.{◌≡◌, ◌++◌, length}
use Rattle.expand_meaning.specs.Texts.{escaped}
use Rattle.expand_texts.proofs.texts.append_all_escaped.Given as goal

abbrev pub invariant-loop-text : goal.invariant-loop-text
invariant-loop-text l = l.out.items ++ escaped l.text ≡ l.initial.out.items ++ escaped l.initial.text

abbrev pub decreases-loop-text : goal.decreases-loop-text
decreases-loop-text l = length l.text
