use Rattle.std.proofs.Common.{pos, ◌∷◌, []}
use Rattle.lua_strings.specs.LuaHeapValue.{Number}
use Rattle.lua_strings.specs.LuaStoreSeen.{seen}
use Rattle.lua_strings.proofs.LuaStoreLater.{later-then}
use Rattle.lua_iterators.proofs.Made.{iterator_heap, iterator_end}
use Rattle.lua_iterators.proofs.making.give_iterator.Goals as goal

pub returns-in_err-id-clause-later : goal.returns-in_err-id-clause-later
returns-in_err-id-clause-later c = later-then c.args.store.now c.four_cells.new.store c.new_iterator.new.store c.four_cells.ensures.later c.new_iterator.ensures.later

pub returns-in_err-values-clause-later : goal.returns-in_err-values-clause-later
returns-in_err-values-clause-later c = later-then c.args.store.now c.four_cells.new.store c.new_iterator.new.store c.four_cells.ensures.later c.new_iterator.ensures.later

pub returns-clause-end : goal.returns-clause-end
returns-clause-end c =
    let t = c.args.store.now.texts in
    iterator_end c.args.step (seen t c.args.subject ∷ seen t c.args.pattern ∷ Number (pos 0) ∷ seen t c.args.other ∷ []) c.args.store.now.heap c.four_cells.new.store.heap _ c.in_ok-id.id c.new_iterator.new.store.texts c.in_ok-values.values
    c.in_ok-cells.ensures.made c.in_ok-id.ensures.id c.in_ok-values.ensures

pub returns-clause-heap : goal.returns-clause-heap
returns-clause-heap c =
    let t = c.args.store.now.texts in
    iterator_heap c.args.step (seen t c.args.subject ∷ seen t c.args.pattern ∷ Number (pos 0) ∷ seen t c.args.other ∷ []) c.args.store.now.heap c.four_cells.new.store.heap c.new_iterator.new.store.heap _
    c.in_ok-cells.ensures.made c.in_ok-id.ensures.made

pub returns-clause-of : goal.returns-clause-of
returns-clause-of c = rw c.in_ok-values.ensures (c.in_ok-id.ensures.of, tt)

pub returns-clause-later : goal.returns-clause-later
returns-clause-later c = later-then c.args.store.now c.four_cells.new.store c.new_iterator.new.store c.four_cells.ensures.later c.new_iterator.ensures.later
