use Rattle.std.proofs.Common.{◌≤◌}
use Rattle.wiki_expand.specs.Points.{Leads, wiki_setting, run_at}
use Rattle.wiki_expand.specs.Weights.{allowed, Keeps, point_weight}
use Rattle.wiki_expand.proofs.frame.Machine.run.Given as goal

abbrev pub invariant-loop-focus : goal.invariant-loop-focus
invariant-loop-focus l = record {
  leads : Leads (wiki_setting l.wiki) (run_at l.wiki l.initial.self l.initial.focus) l.initial.left (run_at l.wiki l.self l.focus) l.left;
  keeps : Keeps l.initial.left l.initial.self.stack l.left l.self.stack;
  falls : allowed l.left l.self.stack ≤ allowed l.initial.left l.initial.self.stack;
}

abbrev pub decreases-loop-focus : goal.decreases-loop-focus
decreases-loop-focus l = point_weight l.focus l.self.stack
