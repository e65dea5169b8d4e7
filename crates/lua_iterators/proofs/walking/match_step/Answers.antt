use Rattle.std.proofs.Common.{◌∙◌, ap, Err, length}
use Rattle.std.proofs.lemmas.Result.{err_from_is_err_and}
use Rattle.lua_strings.specs.LuaHeapHeap.{cell_at}
use Rattle.lua_strings.specs.LuaMeaningIterators.{held_text}
use Rattle.mw_ustrings.proofs.MwFrameTextsCharged.{charged, not_charged}
use Rattle.lua_iterators.proofs.walking.match_step.Goals as goal

pub returns-in_err-pay-clause-answer : goal.returns-in_err-pay-clause-answer
returns-in_err-pay-clause-answer g c =
    let p = err_from_is_err_and c.from_residual.result c.from_residual.ensures.1 in
    let pays = rw c.held_text-pattern.ensures at c.in_err-pay.ensures in
    not_charged (length (held_text (cell_at c.args.store.now.heap c.args.cells.pattern.at))) _ c.args.store.now c.args.left.now c.pay.new.left c.in_err-pay.field-0.0 c.from_residual.result pays (p.1 ∙ ap Err p.2)

pub returns-clause-answer : goal.returns-clause-answer
returns-clause-answer g c =
    let pays = rw c.held_text-pattern.ensures at c.in_ok-pay.ensures in
    let answer = rw (c.held_text-s.ensures, c.held_text-pattern.ensures) at c.walk_by.ensures.answer in
    charged (length (held_text (cell_at c.args.store.now.heap c.args.cells.pattern.at))) _ c.args.store.now c.args.left.now c.pay.new.left c.walk_by.new.left c.walk_by.new.store c.walk_by.result pays answer
