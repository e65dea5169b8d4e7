use Rattle.std.proofs.Common.{take}
use Rattle.wiki_tests.specs.Texts.{AreTested}
use Rattle.wiki_tests.proofs.tested.tested_of.Given as goal

abbrev pub invariant-loop-title : goal.invariant-loop-title
invariant-loop-title l = AreTested l.texts.entries (take l.title-index l.titles) l.all
