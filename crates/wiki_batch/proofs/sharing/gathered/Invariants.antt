use Rattle.wiki_batch.specs.Shares.{Joined}
use Rattle.wiki_batch.proofs.sharing.gathered.Given as goal

abbrev pub invariant-loop-part : goal.invariant-loop-part
invariant-loop-part g l = Joined l.yielded l.all
