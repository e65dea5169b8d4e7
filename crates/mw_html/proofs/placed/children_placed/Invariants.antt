use Rattle.std.proofs.Common.{length}
use Rattle.std.specs.List.{AllByRecursion}
use Rattle.mw_html.specs.Plain.{IsChildOf}
use Rattle.mw_html.proofs.placed.children_placed.Given as goal

abbrev pub invariant-loop-rest : goal.invariant-loop-rest
invariant-loop-rest l = AllByRecursion (IsChildOf l.nodes l.texts) l.rest → AllByRecursion (IsChildOf l.nodes l.texts) l.children

abbrev pub decreases-loop-rest : goal.decreases-loop-rest
decreases-loop-rest l = length l.rest
