use Rattle.std.proofs.Common.{◌≡◌, ◌++◌, length}
use Rattle.mw_htmls.proofs.nodes.extend.Given as goal

-- what was added and what is still to add are all
abbrev pub invariant-each : goal.invariant-each
invariant-each l = l.children ++ l.rest ≡ l.initial.children ++ l.more

abbrev pub decreases-each : goal.decreases-each
decreases-each l = length l.rest
