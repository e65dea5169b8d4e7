use Rattle.std.proofs.Common.{◌≡◌, ◌≤◌, ◌∙◌, ap, sym, arith}
use Rattle.wiki_markup.specs.WkBaseSpace.{trim}
use Rattle.expand_texts.specs.ExpandMeaningExpand.{found}
use Rattle.wiki_pages.specs.ExpandMeaningPlaces.{part_in}
use Rattle.wiki_pages.specs.Forests.{trees_in, parts, size, option_trees}
use Rattle.wiki_expand.specs.Points.{wiki_setting, scene_in, waiting}
use Rattle.wiki_expand.proofs.CallLaws.{parameter_found, parameter_default}
use Rattle.wiki_expand.proofs.StepLaws.{value_stands, default_stands}
use Rattle.wiki_expand.proofs.frame.Machine.parameter.Goals as goal

pub returns-in-Some : goal.returns-in-Some
returns-in-Some c =
    let key : c.of_vec-key.result ≡ trim c.args.text = c.of_vec-key.ensures ∙ c.in_ok-trimmed.ensures ∙ ap trim (c.as_slice.ensures ∙ c.in_ok-name.ensures) in
    value_stands c.args.wiki.now _ c.args.self.now c.args.left.now _ _ c.args.rest (parameter_found (wiki_setting c.args.wiki.now) (scene_in c.args.self.now.scene) (waiting c.args.wiki.now c.args.self.now) (found (trim c.args.text) c.args.self.now.scene.args) c.in-Some.value.now c.as_slice-in-Some.result.now c.args.text (part_in (parts c.args.rest)) c.args.left.now c.leave_with.new.left _
    (ap (λ k. found k c.args.self.now.scene.args) (sym key) ∙ sym c.in-Some.ensures) c.as_slice-in-Some.ensures (c.in_ok-text.ensures.leads (wiki_setting c.args.wiki.now) (waiting c.args.wiki.now c.args.self.now))) c.in_ok-text.ensures.same

pub returns-in-Some-2 : goal.returns-in-Some-2
returns-in-Some-2 c =
    let key : c.of_vec-key.result ≡ trim c.args.text = c.of_vec-key.ensures ∙ c.in_ok-trimmed.ensures ∙ ap trim (c.as_slice.ensures ∙ c.in_ok-name.ensures) in
    let size_ : size c.in-Some-2.default ≤ size c.args.rest = rw c.in-Some-2.is at c.in_ok-default.ensures.size in
    default_stands c.args.wiki.now _ c.args.self.now _ c.args.left.now c.walk.result c.args.rest (parameter_default (wiki_setting c.args.wiki.now) (scene_in c.args.self.now.scene) c.args.self.now.stack c.push.new.self (found (trim c.args.text) c.args.self.now.scene.args) c.args.text (part_in (parts c.args.rest)) (trees_in c.in-Some-2.default) c.walk.result c.args.left.now
    (ap (λ k. found k c.args.self.now.scene.args) (sym key) ∙ sym c.in_default.ensures) (sym c.in_ok-default.ensures.part ∙ ap option_trees c.in-Some-2.is) c.walk.ensures.starts c.in_ok-push.ensures) c.in_ok-push.ensures (omega (arith, c.walk.ensures.size, size_))
