use Rattle.std.proofs.Common.{◌+◌, ◌<◌, refl, arith}
use Rattle.std.proofs.lemmas.Result.{IfOk-weaker}
use Rattle.wiki_pages.specs.Forests.{size}
use Rattle.wiki_expand.specs.Points.{scene_in, waiting}
use Rattle.wiki_expand.proofs.StepLaws.{step_inside}
use Rattle.wiki_expand.proofs.PointLaws.{walk_construct, walk_parameter}
use Rattle.wiki_expand.proofs.frame.Machine.walk_on.Goals as goal

pub returns-in-Construct : goal.returns-in-Construct
returns-in-Construct c =
    let falls : size c.in-Construct.inside + size c.in-Construct.rest < size c.args.walk.rest = rw c.in-Construct.is at c.in_ok-split.ensures.falls in
    IfOk-weaker _ _ _ (λ r. step_inside c.args.wiki.now _ _ c.args.left.now _ _ _ (record { rest = c.in-Construct.rest; named = c.args.walk.named; out = c.args.walk.out }) (size c.args.walk.rest) r _
    (walk_construct c.args.walk.named _ _ _ (scene_in c.args.self.now.scene) c.args.walk.out (waiting c.args.wiki.now c.args.self.now) (rw c.in-Construct.is at c.in_ok-split.ensures.splits)) refl (omega (arith, falls)))
    (rw c.in_ok-push-in-Construct.ensures at c.open_construct.ensures)

pub returns : goal.returns
returns c =
    let falls : size c.in-Parameter.inside + size c.in-Parameter.rest < size c.args.walk.rest = rw c.in-Parameter.is at c.in_ok-split.ensures.falls in
    IfOk-weaker _ _ _ (λ r. step_inside c.args.wiki.now _ _ c.args.left.now _ _ _ (record { rest = c.in-Parameter.rest; named = c.args.walk.named; out = c.args.walk.out }) (size c.args.walk.rest) r _
    (walk_parameter c.args.walk.named _ _ _ (scene_in c.args.self.now.scene) c.args.walk.out (waiting c.args.wiki.now c.args.self.now) (rw c.in-Parameter.is at c.in_ok-split.ensures.splits)) refl (omega (arith, falls)))
    (rw c.in_ok-push-in-Parameter.ensures at c.open_parameter.ensures)
