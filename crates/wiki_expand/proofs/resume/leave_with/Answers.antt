use Rattle.std.proofs.Common.{◌∙◌, ap, sym}
use Rattle.wiki_expand.specs.Points.{leaving}
use Rattle.wiki_expand.proofs.Moves.{from, leads_on, stays}
use Rattle.wiki_expand.proofs.resume.leave_with.Goals as goal

pub returns-clause-leads : goal.returns-clause-leads
returns-clause-leads c = λ w k.
    leads_on w _ _ _ c.args.left.now c.leave.new.left c.leave.new.left
    (from w _ _ _ c.args.left.now c.leave.new.left (ap (leaving k) (sym c.in_ok-text.ensures)) (c.in_ok-text-2.ensures.leads w k))
    (stays w _ _ c.leave.new.left (ap k (sym (c.in_ok-made.ensures ∙ c.in_ok-bytes.ensures))))
