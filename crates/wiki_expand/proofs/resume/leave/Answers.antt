use Rattle.wiki_expand.proofs.Moves.{leads_on, level_left}
use Rattle.wiki_expand.proofs.resume.leave.Goals as goal

pub returns-clause-leads : goal.returns-clause-leads
returns-clause-leads c = λ w k.
    leads_on w _ _ _ c.args.left.now c.leave_expansion.new.self c.sized.new.left (level_left w _ c.args.left.now c.leave_expansion.new.self c.leave_expansion.ensures) (c.in_ok-made.ensures.leads w k)
