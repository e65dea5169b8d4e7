use Rattle.std.proofs.Common.{◌∙◌, ap, arith, Err}
use Rattle.std.proofs.lemmas.Result.{err_from_is_err_and}
use Rattle.lua_strings.specs.LuaStoreSeen.{StoreView}
use Rattle.lua_strings.proofs.LuaStoreLater.{later-then}
use Rattle.mw_ustrings.proofs.MwFrameTextsCharged.{lacked}
use Rattle.lua_iterators.proofs.Made.{iterator_covers}
use Rattle.lua_iterators.proofs.making.make_gcodepoint.Goals as goal

pub returns-in_err-pay-clause-answer : goal.returns-in_err-pay-clause-answer
returns-in_err-pay-clause-answer c =
    let p = err_from_is_err_and c.from_residual.result c.from_residual.ensures.1 in
    lacked 8 _ c.args.store.now c.args.left.now c.pay.new.left c.in_err-pay.field-0.0 c.from_residual.result c.in_err-pay.ensures (omega arith) (p.1 ∙ ap Err p.2)

pub returns-in_err-values-clause-later : goal.returns-in_err-values-clause-later
returns-in_err-values-clause-later c = later-then c.args.store.now c.text.new.self c.give_iterator.new.store c.text.ensures.later c.give_iterator.ensures.later

pub returns-clause-answer : goal.returns-clause-answer
returns-clause-answer c =
    let same = ap (λ (x : StoreView). x.heap) c.in_ok-text.ensures.added in
    let end = rw same at c.in_ok-values.ensures.end in
    let heap = rw (c.in_ok-text.ensures.there, same) at c.in_ok-values.ensures.heap in
    iterator_covers _ c.give_iterator.new.store c.args.left.now c.pay.new.left c.in_ok-values.values c.in_ok-pay.ensures heap end

pub returns-clause-later : goal.returns-clause-later
returns-clause-later c = later-then c.args.store.now c.text.new.self c.give_iterator.new.store c.text.ensures.later c.give_iterator.ensures.later
