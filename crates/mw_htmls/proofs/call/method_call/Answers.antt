use Rattle.std.proofs.Common.{◌∙◌, ap, arith, Err}
use Rattle.std.proofs.lemmas.Result.{err_from_is_err_and}
use Rattle.lua_strings.specs.LuaMeaningArguments.{text_charge}
use Rattle.lua_strings.specs.LuaBasicSeen.{values_seen}
use Rattle.lua_strings.proofs.Taken.{not_paid, charged}
use Rattle.mw_htmls.proofs.call.method_call.Goals as goal

pub returns-in_err-take_texts-clause-answer : goal.returns-in_err-take_texts-clause-answer
returns-in_err-take_texts-clause-answer c =
    let p = err_from_is_err_and c.from_residual.result c.from_residual.ensures.1 in
    let s = c.args.store.now in
    not_paid (text_charge (values_seen s.texts c.args.args.now)) _ s c.args.left.now c.take_texts.new.left c.in_err-take_texts.field-0.0 c.from_residual.result c.in_err-take_texts.ensures (omega arith) (p.1 ∙ ap Err p.2)

pub returns-clause-answer : goal.returns-clause-answer
returns-clause-answer c =
    let s = c.args.store.now in
    charged (text_charge (values_seen s.texts c.args.args.now)) _ s c.args.left.now c.take_texts.new.left c.method.new.left c.method.new.store c.method.result c.in_ok-take_texts.ensures c.method.ensures.answer
