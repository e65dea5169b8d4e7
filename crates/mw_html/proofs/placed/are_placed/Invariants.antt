use Rattle.std.proofs.Common.{length}
use Rattle.std.specs.List.{AllByRecursion}
use Rattle.mw_html.specs.Plain.{IsNodeOf}
use Rattle.mw_html.proofs.placed.are_placed.Given as goal

abbrev pub invariant-loop-rest : goal.invariant-loop-rest
invariant-loop-rest l = AllByRecursion (IsNodeOf (length l.nodes) l.texts) l.rest → AllByRecursion (IsNodeOf (length l.nodes) l.texts) l.nodes

abbrev pub decreases-loop-rest : goal.decreases-loop-rest
decreases-loop-rest l = length l.rest
