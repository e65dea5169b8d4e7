use Rattle.std.proofs.Common.{◌≡◌, ◌∙◌, ap, sym, arith}
use Rattle.std.proofs.lemmas.Result.{IfOk-weaker}
use Rattle.wiki_markup.specs.WkBaseSpace.{trim}
use Rattle.expand_texts.specs.ExpandMeaningKind.{kind_of}
use Rattle.wiki_pages.specs.ExpandMeaningPlaces.{no_part}
use Rattle.expand_texts.specs.ExpandMeaningExpand.{by_kind}
use Rattle.expand_texts.specs.Kinds.{kind_in}
use Rattle.expand_texts.specs.Ropes.{bytes_of}
use Rattle.wiki_pages.specs.Forests.{parts}
use Rattle.wiki_expand.specs.Points.{wiki_setting, scene_in, waiting}
use Rattle.wiki_expand.proofs.Moves.{stays}
use Rattle.wiki_expand.proofs.StepLaws.{step_from}
use Rattle.wiki_expand.proofs.frame.Machine.first_part.Goals as goal

pub returns : goal.returns
returns c =
    let text : c.trim.result.now ≡ trim c.args.text = c.trim.ensures ∙ ap trim (c.as_slice.ensures ∙ c.in_ok-first.ensures) in
    let kind : kind_in c.in_ok-kind.kind ≡ kind_of (no_part (parts c.args.rest)) c.args.wiki.now.page (trim c.args.text) =
    c.in_ok-kind.ensures ∙ ap (λ b. kind_of b c.args.wiki.now.page c.trim.result.now) c.in_ok-alone.ensures ∙ ap (kind_of (no_part (parts c.args.rest)) c.args.wiki.now.page) text in
    IfOk-weaker _ _ _ (λ r. step_from c.args.wiki.now _ _ c.args.left.now _ _ _ _ _ _ r _
    (stays (wiki_setting c.args.wiki.now) _ _ c.args.left.now (sym (
    ap (λ k. by_kind (wiki_setting c.args.wiki.now) k (bytes_of c.in_ok-first.first) (parts c.args.rest) (scene_in c.args.self.now.scene) (waiting c.args.wiki.now c.args.self.now)) kind
    ∙ ap (λ x. by_kind (wiki_setting c.args.wiki.now) (kind_of (no_part (parts c.args.rest)) c.args.wiki.now.page (trim c.args.text)) x (parts c.args.rest) (scene_in c.args.self.now.scene) (waiting c.args.wiki.now c.args.self.now)) c.in_ok-first.ensures)))
    (omega arith) (omega arith)) c.by_kind.ensures
