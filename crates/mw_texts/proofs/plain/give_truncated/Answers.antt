use Rattle.std.proofs.Common.{◌∙◌, ◌+◌, ap, sym, arith, length, length-append, [], ◌∷◌, Err, w64}
use Rattle.std.proofs.lemmas.Int.{to_z-of_z}
use Rattle.std.proofs.lemmas.Result.{err_from_is_err_and}
use Rattle.std.specs.Prelude.{chars, encode_utf8_all}
use Rattle.mw_text.specs.Joined.{truncated}
use Rattle.mw_ustrings.specs.LuaHeapValue as kind
use Rattle.mw_ustrings.proofs.MwFrameTextsCharged.{lacked}
use Rattle.mw_ustrings.proofs.Costs.{values_cover}
use Rattle.mw_texts.proofs.plain.give_truncated.Goals as goal

pub returns-in_err-pay_texts-clause-answer : goal.returns-in_err-pay_texts-clause-answer
returns-in_err-pay_texts-clause-answer c =
    let p = err_from_is_err_and c.from_residual.result c.from_residual.ensures.1 in
    let first = c.shortened.result.0.now in
    let second = c.shortened.result.1.now in
    let is = rw (to_z-of_z w64 c.args.n c.ranges.n) at c.shortened.ensures in
    let all = ap length (sym is) ∙ length-append first second in
    lacked (length first + length second) _ c.args.store.now c.args.left.now c.pay_texts.new.left c.in_err-pay_texts.field-0.0 c.from_residual.result c.in_err-pay_texts.ensures (omega (arith, all)) (p.1 ∙ ap Err p.2)

pub returns-clause-answer : goal.returns-clause-answer
returns-clause-answer c =
    let first = c.shortened.result.0.now in
    let second = c.shortened.result.1.now in
    let made = encode_utf8_all (truncated (chars c.args.s.now) c.args.n (chars c.args.ellipsis.now) c.args.adjust) in
    let is = rw (to_z-of_z w64 c.args.n c.ranges.n) at c.shortened.ensures in
    let all = ap length (sym is) ∙ length-append first second in
    values_cover (length made) c.args.store.now.heap c.text_value.new.store c.args.left.now c.pay_texts.new.left (kind.Text made ∷ []) c.in_ok-values.values (rw (sym all) at c.in_ok-pay_texts.ensures) c.in_ok-values.ensures.heap
    (c.in_ok-values.ensures.value ∙ ap (λ text. kind.Text text ∷ []) (c.as_slice.ensures.value ∙ c.in_ok-made.ensures ∙ is))
