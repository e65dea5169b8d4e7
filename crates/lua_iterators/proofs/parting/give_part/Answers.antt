use Rattle.std.proofs.Common.{◌∙◌, ap, arith, Err, refl, length, ◌∷◌, []}
use Rattle.std.proofs.lemmas.Result.{err_from_is_err_and}
use Rattle.lua_strings.specs.LuaHeapValue.{Text}
use Rattle.lua_strings.specs.LuaHeapHeap.{Heap, set_cell_in}
use Rattle.lua_strings.specs.LuaHeapProc.{Proc}
use Rattle.lua_strings.specs.LuaStoreSeen.{StoreView}
use Rattle.lua_strings.specs.LuaMeaningIterators.{place_or_nil}
use Rattle.mw_text.specs.Split.{slice}
use Rattle.mw_ustrings.proofs.MwFramesSums.{took_then}
use Rattle.mw_ustrings.proofs.MwFrameTextsCharged.{lacked}
use Rattle.mw_ustrings.proofs.Costs.{values_cover, lacked_second}
use Rattle.lua_iterators.proofs.parting.give_part.Goals as goal

pub returns-in_err-pay-clause-answer : goal.returns-in_err-pay-clause-answer
returns-in_err-pay-clause-answer c =
    let p = err_from_is_err_and c.from_residual.result c.from_residual.ensures.1 in
    lacked c.args.part.tries _ c.args.store.now c.args.left.now c.pay.new.left c.in_err-pay.field-0.0 c.from_residual.result c.in_err-pay.ensures (omega arith) (p.1 ∙ ap Err p.2)

pub returns-in_err-pay-2-clause-answer : goal.returns-in_err-pay-2-clause-answer
returns-in_err-pay-2-clause-answer c =
    let p = err_from_is_err_and c.from_residual-in_err-pay-2.result c.from_residual-in_err-pay-2.ensures.1 in
    let pays = rw c.span-bytes.ensures at c.in_err-pay-2.ensures in
    lacked_second c.args.part.tries (length (slice c.args.s.now c.args.at c.args.part.stop)) _ c.args.store.now c.args.left.now c.pay.new.left c.pay-2.new.left c.in_err-pay-2.field-0.0 c.from_residual-in_err-pay-2.result c.in_ok-pay.ensures
    pays (omega arith) (p.1 ∙ ap Err p.2)

pub set_cell-requires-clause-value : goal.set_cell-requires-clause-value
set_cell-requires-clause-value c = c.in_ok-place.ensures.of c.text.new.self

pub returns-clause-answer : goal.returns-clause-answer
returns-clause-answer c =
    let s = c.args.store.now in
    let u = c.text.new.self in
    let pays = rw c.span-bytes.ensures at c.in_ok-pay-2.ensures in
    let took = took_then c.args.part.tries (length (slice c.args.s.now c.args.at c.args.part.stop)) c.args.left.now c.pay.new.left c.pay-2.new.left c.in_ok-pay.ensures pays in
    let same = ap (λ (x : StoreView). x.heap) c.in_ok-text.ensures.added in
    let texts = ap (λ (x : StoreView). x.texts) c.set_cell.ensures.set in
    values_cover _ (set_cell_in s.heap c.args.cells.place.at (place_or_nil c.args.part.next)) c.set_cell.new.self c.args.left.now c.pay-2.new.left (Text (slice c.args.s.now c.args.at c.args.part.stop) ∷ []) c.in_ok-values.values took
    (ap (λ (x : StoreView). x.heap) c.set_cell.ensures.set ∙ ap (set_cell_in u.heap c.args.cells.place.at) (c.in_ok-place.ensures.value u.texts) ∙ ap (λ (h : Heap Proc). set_cell_in h c.args.cells.place.at (place_or_nil c.args.part.next)) same)
    (rw (c.in_ok-values.ensures, texts, c.in_ok-text.ensures.there, c.span-bytes.ensures) refl)
