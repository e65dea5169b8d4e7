use Rattle.std.proofs.Common.{take}
use Rattle.wiki_texts.specs.Prepared.{ArePrepared}
use Rattle.wiki_texts.proofs.preparing.prepare_all.Given as goal

abbrev pub invariant-loop-page : goal.invariant-loop-page
invariant-loop-page l = ArePrepared (take l.page-index l.pages) l.prepared
