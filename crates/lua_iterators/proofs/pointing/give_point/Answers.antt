use Rattle.std.proofs.Common.{◌∙◌, ap, refl, pos, ◌∷◌, []}
use Rattle.lua_strings.specs.LuaHeapValue.{Number}
use Rattle.lua_strings.specs.LuaHeapHeap.{set_cell_in}
use Rattle.lua_strings.specs.LuaStoreSeen.{StoreView}
use Rattle.lua_iterators.proofs.Changed.{gives_free}
use Rattle.lua_iterators.proofs.pointing.give_point.Goals as goal

pub set_cell-requires-clause-value : goal.set_cell-requires-clause-value
set_cell-requires-clause-value c = c.in_ok-place.ensures.of c.args.store.now

pub returns-clause-answer : goal.returns-clause-answer
returns-clause-answer c =
    let s = c.args.store.now in
    gives_free (set_cell_in s.heap c.args.cells.place.at (Number (pos c.args.next))) c.set_cell.new.self (Number (pos c.args.point) ∷ []) c.in_ok-values.values
    (ap (λ (x : StoreView). x.heap) c.set_cell.ensures.set ∙ ap (set_cell_in s.heap c.args.cells.place.at) (c.in_ok-place.ensures.value s.texts))
    (rw (c.in_ok-values.ensures, c.point_value.ensures.value c.set_cell.new.self.texts) refl)

pub returns-clause-of : goal.returns-clause-of
returns-clause-of c = rw c.in_ok-values.ensures (c.point_value.ensures.of c.set_cell.new.self, tt)
