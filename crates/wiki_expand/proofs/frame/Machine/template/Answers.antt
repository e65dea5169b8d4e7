use Rattle.std.proofs.Common.{◌∙◌, refl, ap, sym, arith}
use Rattle.std.proofs.lemmas.Result.{IfOk-weaker}
use Rattle.wiki_pages.specs.Forests.{trees_in, parts, option_trees}
use Rattle.wiki_expand.specs.Points.{wiki_setting, scene_in, waiting}
use Rattle.wiki_expand.proofs.StepLaws.{text_stands, step_from}
use Rattle.wiki_expand.proofs.CallLaws.{template_depth, template_starts}
use Rattle.wiki_expand.proofs.frame.Machine.template.Goals as goal

pub returns-then-not-has_template : goal.returns-then-not-has_template
returns-then-not-has_template c =
    text_stands c.args.wiki.now _ c.args.self.now c.args.left.now _ _ _ _ (template_depth (wiki_setting c.args.wiki.now) _ (trees_in c.in-Some.trees) c.args.title (parts c.args.rest) (scene_in c.args.self.now.scene) (waiting c.args.wiki.now c.args.self.now) c.args.left.now _ (ap option_trees (sym c.in-Some.is) ∙ c.included.ensures) (sym c.contains.ensures ∙ c.if-contains.false) c.if-not-has_template.ensures.none (c.in_ok-text-3.ensures ∙ c.depth_text.ensures)) refl (omega arith) (omega arith)

pub returns : goal.returns
returns c =
    IfOk-weaker _ _ _ (λ r. step_from c.args.wiki.now _ _ c.args.left.now _ _ _ _ _ _ r _
    (template_starts (wiki_setting c.args.wiki.now) _ (trees_in c.in-Some.trees) c.args.title (parts c.args.rest) (scene_in c.args.self.now.scene) (waiting c.args.wiki.now c.args.self.now) c.args.left.now c.new.result c.new.ensures (ap option_trees (sym c.in-Some.is) ∙ c.included.ensures) (sym c.contains.ensures ∙ c.if-contains.false) c.if-not-has_template.ensures.enough)
    (omega arith) (omega arith)) c.arguments.ensures
