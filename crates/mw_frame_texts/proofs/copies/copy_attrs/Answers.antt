use Rattle.std.proofs.Common.{◌∙◌, ◌++◌, ap, sym, take, ◌∷◌, []}
use Rattle.std.proofs.lemmas.List.{take_more}
use Rattle.mw_text.specs.Tag.{attributes, attribute}
use Rattle.mw_frame_texts.specs.Written.{attrs_written}
use Rattle.mw_frame_texts.proofs.Reading.{attrs-push}
use Rattle.mw_frame_texts.proofs.Same.{attributes-push}
use Rattle.mw_frame_texts.proofs.copies.copy_attrs.Goals as goal

pub attrs-preserved : goal.attrs-preserved
attrs-preserved c =
    let xs = c.args.attrs.now in
    let i = c.attrs.attr-index in
    let x = c.attr-item.result in
    let copy = c.in_ok-copy.copy in
    let done = take i xs in
    ap attributes c.in_ok-push.ensures.ok ∙ attributes-push c.attrs.copies copy ∙ ap (λ w. w ++ attribute copy.name copy.value) c.attrs.invariant
    ∙ ap (λ w. attrs_written done ++ w) c.in_ok-copy.ensures ∙ sym (attrs-push done x) ∙ ap (λ y. attrs_written (done ++ y ∷ [])) c.attr-item.is ∙ ap attrs_written (sym (take_more xs i x c.attrs-test.true))
