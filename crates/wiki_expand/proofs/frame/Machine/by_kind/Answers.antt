use Rattle.std.proofs.Common.{refl, arith}
use Rattle.std.proofs.lemmas.Result.{IfOk-weaker}
use Rattle.wiki_expand.specs.Points.{wiki_setting, scene_in}
use Rattle.wiki_expand.proofs.Moves.{stays}
use Rattle.wiki_expand.proofs.StepLaws.{step_from, step_calm}
use Rattle.wiki_expand.proofs.frame.Machine.by_kind.Goals as goal

pub returns-in-Include : goal.returns-in-Include
returns-in-Include c =
    rw c.in-Include.is (IfOk-weaker _ _ _ (λ r. step_from c.args.wiki.now _ _ c.args.left.now _ _ _ _ _ _ r _ (stays (wiki_setting c.args.wiki.now) _ _ c.args.left.now refl) (omega arith) (omega arith)) c.template.ensures)

pub returns-in-Switch : goal.returns-in-Switch
returns-in-Switch c =
    rw c.in-Switch.is (step_calm c.args.wiki.now _ c.args.self.now _ c.args.left.now _ 0 _ _ (c.in_ok-focus-in-Switch.ensures.same (wiki_setting c.args.wiki.now) (scene_in c.args.self.now.scene)) c.in_ok-focus-in-Switch.ensures.calm
    (omega (arith, c.in_ok-focus-in-Switch.ensures.light)) (omega arith))
