use Rattle.std.proofs.Common.{◌∙◌, ap, sym, Err}
use Rattle.std.proofs.lemmas.Result.{err_from_is_err_and}
use Rattle.lua_basic.specs.LuaStoreSeen.{seen_entry}
use Rattle.mw_frames.proofs.ReadLemmas.{passed-over, passed-short, named-or-not}
use Rattle.mw_frames.proofs.reading.pass_entry.Goals as goal

pub returns-in_err-pay : goal.returns-in_err-pay
returns-in_err-pay c =
    let p = err_from_is_err_and c.from_residual.result c.from_residual.ensures.1 in
    let e = seen_entry c.args.store.now.texts c.args.entry in
    passed-short e c.args.left.now c.pay.new.left c.in_err-pay.field-0.0 c.from_residual.result (sym (c.if-is_nil.ensures c.args.store.now.texts)) c.in_err-pay.ensures (p.1 ∙ ap Err p.2)

pub returns-then-is_nil : goal.returns-then-is_nil
returns-then-is_nil c =
    passed-over (seen_entry c.args.store.now.texts c.args.entry) c.args.left.now c.pay.new.left (sym (c.if-is_nil.ensures c.args.store.now.texts)) c.in_ok-pay.ensures

pub returns : goal.returns
returns c =
    named-or-not (seen_entry c.args.store.now.texts c.args.entry) c.args.left.now c.is_named.result (sym (c.if-is_nil.ensures c.args.store.now.texts)) (c.is_named.ensures c.args.store.now.texts)
