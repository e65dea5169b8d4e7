use Rattle.std.proofs.Common.{◌≡◌, length}
use Rattle.wiki_texts.proofs.PreparedLaws.{AreHeld}
use Rattle.wiki_texts.proofs.preparing.by_title.Given as goal

abbrev pub invariant-loop-done : goal.invariant-loop-done
invariant-loop-done l = (l.at ≡ length l.yielded) × AreHeld l.pages l.at l.map l.modules
