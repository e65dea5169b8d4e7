use Rattle.std.proofs.Common.{◌∙◌, ap, sym, arith}
use Rattle.std.proofs.lemmas.Result.{IfOk-weaker}
use Rattle.wiki_expand.specs.Points.{wiki_setting, scene_in, waiting, calling, unnamed}
use Rattle.wiki_expand.proofs.Moves.{stays}
use Rattle.wiki_expand.proofs.StepLaws.{step_from}
use Rattle.wiki_expand.proofs.frame.Machine.unnamed.Goals as goal

pub returns : goal.returns
returns c =
    IfOk-weaker _ _ _ (λ r. step_from c.args.wiki.now _ _ c.args.left.now _ _ _ _ _ _ r _
    (stays (wiki_setting c.args.wiki.now) _ _ c.args.left.now (sym (c.in_ok-call.ensures.same (wiki_setting c.args.wiki.now) (unnamed c.args.call c.args.text) (scene_in c.args.self.now.scene) (waiting c.args.wiki.now c.args.self.now)) ∙ ap (λ g. calling (wiki_setting c.args.wiki.now) c.in_ok-call.call g (scene_in c.args.self.now.scene) (waiting c.args.wiki.now c.args.self.now)) (sym c.in_ok-call.ensures.given)))
    (omega (arith, c.in_ok-call.ensures.size)) (omega arith)) c.arguments.ensures
