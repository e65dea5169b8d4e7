use Rattle.std.proofs.Common.{◌∙◌, ap, Err}
use Rattle.std.proofs.lemmas.Result.{err_from_is_err_and}
use Rattle.lua_strings.specs.LuaBasicSeen.{values_seen}
use Rattle.lua_iterators.specs.Table.{args_charge}
use Rattle.mw_ustrings.proofs.MwFrameTextsCharged.{charged, not_charged}
use Rattle.lua_iterators.proofs.call.iterator_call.Goals as goal

pub returns-in_err-pay_args-clause-answer : goal.returns-in_err-pay_args-clause-answer
returns-in_err-pay_args-clause-answer c =
    let p = err_from_is_err_and c.from_residual.result c.from_residual.ensures.1 in
    let s = c.args.store.now in
    not_charged (args_charge c.args.which (values_seen s.texts c.args.args.now)) _ s c.args.left.now c.pay_args.new.left c.in_err-pay_args.field-0.0 c.from_residual.result c.in_err-pay_args.ensures (p.1 ∙ ap Err p.2)

pub returns-clause-answer : goal.returns-clause-answer
returns-clause-answer c =
    let s = c.args.store.now in
    charged (args_charge c.args.which (values_seen s.texts c.args.args.now)) _ s c.args.left.now c.pay_args.new.left c.give.new.left c.give.new.store c.give.result c.in_ok-pay_args.ensures c.give.ensures.answer
