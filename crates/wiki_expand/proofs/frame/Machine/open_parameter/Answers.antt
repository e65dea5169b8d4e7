use Rattle.std.proofs.Common.{refl, arith}
use Rattle.expand_texts.specs.ExpandMeaningExpand.{AParameter, parameter}
use Rattle.wiki_pages.specs.Forests.{parts}
use Rattle.wiki_expand.specs.Points.{wiki_setting, scene_in, waiting}
use Rattle.wiki_expand.proofs.Moves.{leads_on, stays}
use Rattle.wiki_expand.proofs.StepLaws.{text_stands, no_level, parameter_entered}
use Rattle.wiki_expand.proofs.PointLaws.{parameter_begins}
use Rattle.wiki_expand.proofs.frame.Machine.open_parameter.Goals as goal

pub returns-in-NoNode : goal.returns-in-NoNode
returns-in-NoNode c = text_stands c.args.wiki.now _ c.args.self.now c.args.left.now _ _ _ _ (rw c.in-NoNode.is at (c.in_ok-text.ensures.opens (wiki_setting c.args.wiki.now) (AParameter (parts c.args.inside) (scene_in c.args.self.now.scene)) (parameter (parts c.args.inside) (scene_in c.args.self.now.scene)) (waiting c.args.wiki.now c.args.self.now) refl)) (rw c.in-NoNode.is at c.in_ok-text.ensures.takes) (omega arith) (omega arith)

pub returns-in-NoLevel : goal.returns-in-NoLevel
returns-in-NoLevel c = no_level c.args.wiki.now _ c.args.self.now c.args.left.now _ _ _ (rw c.in-NoLevel.is at (c.in_ok-text.ensures.opens (wiki_setting c.args.wiki.now) (AParameter (parts c.args.inside) (scene_in c.args.self.now.scene)) (parameter (parts c.args.inside) (scene_in c.args.self.now.scene)) (waiting c.args.wiki.now c.args.self.now) refl)) (rw c.in-NoLevel.is at c.in_ok-text.ensures.takes)

pub returns : goal.returns
returns c =
    parameter_entered c.args.wiki.now _ c.args.self.now _ c.args.left.now _ _ _ _ (
    leads_on (wiki_setting c.args.wiki.now) _ _ _ c.args.left.now c.enter.new.left c.enter.new.left
    (rw c.in-Entered.is at (c.in_ok-text.ensures.opens (wiki_setting c.args.wiki.now) (AParameter (parts c.args.inside) (scene_in c.args.self.now.scene)) (parameter (parts c.args.inside) (scene_in c.args.self.now.scene)) (waiting c.args.wiki.now c.args.self.now) refl))
    (stays (wiki_setting c.args.wiki.now) _ _ c.enter.new.left (parameter_begins (wiki_setting c.args.wiki.now) (scene_in c.args.self.now.scene) c.args.self.now.stack c.push.new.self (parts c.args.inside) c.in_ok-name-in-Entered.name c.in_ok-name-in-Entered.rest c.walk.result c.in_ok-name-in-Entered.ensures.first c.in_ok-name-in-Entered.ensures.others c.walk.ensures.starts c.in_ok-push-in-Entered.ensures)))
    (rw c.in-Entered.is at c.in_ok-text.ensures.takes) c.in_ok-push-in-Entered.ensures
