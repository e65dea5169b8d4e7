use Rattle.std.proofs.Common.{take}
use Rattle.wiki_batch.specs.Batch.{ArePages}
use Rattle.wiki_batch.proofs.expanding.expand_share.Given as goal

abbrev pub invariant-loop-title : goal.invariant-loop-title
invariant-loop-title g l = ArePages l.wiki l.limits (take l.title-index l.titles) l.pages
