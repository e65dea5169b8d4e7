use Rattle.std.proofs.Common.{rules}
use Rattle.wiki_batch.proofs.Joins.{Joined-push}
use Rattle.wiki_batch.proofs.sharing.gathered.Goals as goal

pub loop-part-preserved : goal.loop-part-preserved
loop-part-preserved g c = search (rules, Joined-push)
