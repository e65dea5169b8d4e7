use Rattle.std.proofs.Common.{◌∙◌, ap, arith, Err, ◌∷◌, [], refl}
use Rattle.std.proofs.lemmas.Result.{err_from_is_err_and}
use Rattle.lua_strings.specs.LuaHeapValue.{Nil}
use Rattle.lua_strings.specs.LuaHeapHeap.{set_cell_in}
use Rattle.lua_strings.specs.LuaStoreSeen.{StoreView}
use Rattle.mw_ustrings.proofs.MwFrameTextsCharged.{lacked}
use Rattle.mw_ustrings.proofs.Costs.{values_cover}
use Rattle.lua_iterators.proofs.walking.end_walk.Goals as goal

pub returns-in_err-pay-clause-answer : goal.returns-in_err-pay-clause-answer
returns-in_err-pay-clause-answer c =
    let p = err_from_is_err_and c.from_residual.result c.from_residual.ensures.1 in
    lacked c.args.tries _ c.args.store.now c.args.left.now c.pay.new.left c.in_err-pay.field-0.0 c.from_residual.result c.in_err-pay.ensures (omega arith) (p.1 ∙ ap Err p.2)

pub returns-clause-answer : goal.returns-clause-answer
returns-clause-answer c =
    values_cover c.args.tries (set_cell_in c.args.store.now.heap c.args.cells.place.at Nil) c.set_cell.new.self c.args.left.now c.pay.new.left (Nil ∷ []) c.in_ok-values.values c.in_ok-pay.ensures
    (ap (λ (x : StoreView). x.heap) c.set_cell.ensures.set) (rw c.in_ok-values.ensures refl)
