use Rattle.std.proofs.Common.{◌≡◌, ◌∙◌, ap, Err}
use Rattle.std.proofs.lemmas.Result.{err_from_is_err_and}
use Rattle.lua_strings.specs.LuaHeapValue.{is_true}
use Rattle.lua_strings.specs.LuaHeapHeap.{cell_at}
use Rattle.lua_strings.specs.LuaMeaningIterators.{held_text}
use Rattle.lua_strings.specs.LuaMeaningTexts.{pattern_charge}
use Rattle.mw_ustrings.proofs.MwFrameTextsCharged.{charged, not_charged}
use Rattle.lua_iterators.proofs.parting.part_step.Goals as goal

pub returns-in_err-pay-clause-answer : goal.returns-in_err-pay-clause-answer
returns-in_err-pay-clause-answer c =
    let p = err_from_is_err_and c.from_residual.result c.from_residual.ensures.1 in
    let h = c.args.store.now.heap in
    let plain : c.is_true-plain.result ≡ is_true (cell_at h c.args.cells.other.at) = c.is_true-plain.ensures c.args.store.now.texts ∙ ap is_true c.cell.ensures.value in
    let pays = rw (c.pattern_cost.ensures, c.held_text-pattern.ensures, plain) at c.in_err-pay.ensures in
    not_charged (pattern_charge (is_true (cell_at h c.args.cells.other.at)) (held_text (cell_at h c.args.cells.pattern.at))) _ c.args.store.now c.args.left.now c.pay.new.left c.in_err-pay.field-0.0 c.from_residual.result pays (p.1 ∙ ap Err p.2)

pub returns-clause-answer : goal.returns-clause-answer
returns-clause-answer c =
    let h = c.args.store.now.heap in
    let plain : c.is_true-plain.result ≡ is_true (cell_at h c.args.cells.other.at) = c.is_true-plain.ensures c.args.store.now.texts ∙ ap is_true c.cell.ensures.value in
    let pays = rw (c.pattern_cost.ensures, c.held_text-pattern.ensures, plain) at c.in_ok-pay.ensures in
    let answer = rw (c.held_text-s.ensures, c.held_text-pattern.ensures, plain) at c.part_by.ensures.answer in
    charged (pattern_charge (is_true (cell_at h c.args.cells.other.at)) (held_text (cell_at h c.args.cells.pattern.at))) _ c.args.store.now c.args.left.now c.pay.new.left c.part_by.new.left c.part_by.new.store c.part_by.result pays answer
