use Rattle.std.proofs.Common.{take}
use Rattle.wiki_tests.specs.Texts.{AreTexts}
use Rattle.wiki_tests.proofs.tested.module_texts.Given as goal

abbrev pub invariant-loop-page : goal.invariant-loop-page
invariant-loop-page l = AreTexts (take l.page-index l.pages) l.texts.entries
