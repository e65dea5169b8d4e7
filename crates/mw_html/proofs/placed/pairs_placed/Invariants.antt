use Rattle.std.proofs.Common.{length}
use Rattle.std.specs.List.{AllByRecursion}
use Rattle.mw_html.specs.Plain.{IsPairOf}
use Rattle.mw_html.proofs.placed.pairs_placed.Given as goal

abbrev pub invariant-loop-rest : goal.invariant-loop-rest
invariant-loop-rest l = AllByRecursion (IsPairOf l.texts) l.rest → AllByRecursion (IsPairOf l.texts) l.pairs

abbrev pub decreases-loop-rest : goal.decreases-loop-rest
decreases-loop-rest l = length l.rest
