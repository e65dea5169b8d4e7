use Rattle.std.proofs.Common.{◌∙◌, ap, Err}
use Rattle.std.proofs.lemmas.Result.{err_from_is_err_and}
use Rattle.mw_frame_texts.specs.LuaMeaningArguments.{text_charge}
use Rattle.mw_frame_texts.specs.LuaBasicSeen.{values_seen}
use Rattle.mw_frame_texts.proofs.Charged.{charged, not_charged}
use Rattle.mw_ustrings.proofs.call.ustring_call.Goals as goal

pub returns-in_err-pay_given-clause-answer : goal.returns-in_err-pay_given-clause-answer
returns-in_err-pay_given-clause-answer c =
    let p = err_from_is_err_and c.from_residual.result c.from_residual.ensures.1 in
    let s = c.args.store.now in
    not_charged (text_charge (values_seen s.texts c.args.args.now)) _ s c.args.left.now c.pay_given.new.left c.in_err-pay_given.field-0.0 c.from_residual.result c.in_err-pay_given.ensures (p.1 ∙ ap Err p.2)

pub returns-clause-answer : goal.returns-clause-answer
returns-clause-answer c =
    let s = c.args.store.now in
    charged (text_charge (values_seen s.texts c.args.args.now)) _ s c.args.left.now c.pay_given.new.left c.give.new.left c.give.new.store c.give.result c.in_ok-pay_given.ensures c.give.ensures.answer
