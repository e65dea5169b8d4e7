use Rattle.std.proofs.Common.{◌∙◌, ap, arith, length, Err}
use Rattle.std.proofs.lemmas.Result.{err_from_is_err_and}
use Rattle.mw_frames.specs.LuaStoreSeen.{StoreView}
use Rattle.mw_frame_texts.specs.Written.{tag_written}
use Rattle.mw_frame_texts.proofs.Charged.{lacked, text_covers}
use Rattle.mw_frame_texts.proofs.tagging.give_tag.Goals as goal

pub returns-in_err-pay_tag-clause-answer : goal.returns-in_err-pay_tag-clause-answer
returns-in_err-pay_tag-clause-answer c =
    let p = err_from_is_err_and c.from_residual.result c.from_residual.ensures.1 in
    let size = length (tag_written c.args.name.now c.args.attrs.now c.args.content.now) in
    lacked size _ c.args.store.now c.args.left.now c.pay_tag.new.left c.in_err-pay_tag.field-0.0 c.from_residual.result c.in_err-pay_tag.ensures (omega arith) (p.1 ∙ ap Err p.2)

pub returns-clause-answer : goal.returns-clause-answer
returns-clause-answer c =
    let tag = tag_written c.args.name.now c.args.attrs.now c.args.content.now in
    text_covers c.args.store.now.heap c.text.new.self c.args.left.now c.pay_tag.new.left tag c.in_ok-values.values c.in_ok-text.text c.in_ok-pay_tag.ensures c.in_ok-values.ensures
    (c.in_ok-text.ensures.there ∙ c.as_slice.ensures.value ∙ c.in_ok-made.ensures) (ap (λ (s : StoreView). s.heap) c.in_ok-text.ensures.added)
