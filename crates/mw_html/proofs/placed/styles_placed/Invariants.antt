use Rattle.std.proofs.Common.{length}
use Rattle.std.specs.List.{AllByRecursion}
use Rattle.mw_html.specs.Plain.{IsStyleOf}
use Rattle.mw_html.proofs.placed.styles_placed.Given as goal

abbrev pub invariant-loop-rest : goal.invariant-loop-rest
invariant-loop-rest l = AllByRecursion (IsStyleOf l.texts) l.rest → AllByRecursion (IsStyleOf l.texts) l.styles

abbrev pub decreases-loop-rest : goal.decreases-loop-rest
decreases-loop-rest l = length l.rest
