use Rattle.std.proofs.Common.{◌≤◌}
use Rattle.wiki_expand.specs.Points.{Leads, wiki_setting, run_at}
use Rattle.wiki_expand.specs.Weights.{allowed, Keeps}
use Rattle.wiki_expand.proofs.frame.Machine.next_move.Given as goal

abbrev pub invariant-loop-next : goal.invariant-loop-next
invariant-loop-next l = record {
  leads : Leads (wiki_setting l.wiki) (run_at l.wiki l.initial.self l.initial.focus) l.initial.left (run_at l.wiki l.self l.focus) l.left;
  keeps : Keeps l.initial.left l.initial.self.stack l.left l.self.stack;
  falls : allowed l.left l.self.stack ≤ allowed l.initial.left l.initial.self.stack;
}

abbrev pub decreases-loop-next : goal.decreases-loop-next
decreases-loop-next l = allowed l.left l.self.stack
