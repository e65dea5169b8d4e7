use Rattle.std.proofs.Common.{◌≡◌, ◌∙◌, ap, sym, pos, rules, w64, to_z, of_z}
use Rattle.lua_basic.specs.LuaHeapValue.{Number}
use Rattle.lua_basic.specs.LuaHeapTable.{get}
use Rattle.lua_basic.specs.LuaHeapHeap.{table_at}
use Rattle.lua_basic.specs.LuaStoreSeen.{seen}
use Rattle.mw_frames.proofs.Digits.{by-place, by-no-place}
use Rattle.mw_frames.proofs.index.at_place.Goals as goal

pub returns-then-is_place-clause-value : goal.returns-then-is_place-clause-value
returns-then-is_place-clause-value c =
    let whole : to_z w64 (of_z w64 c.place_of.result) ≡ c.place_of.result = search rules in
    let value = rw whole at c.get.ensures.value in
    by-place c.args.store.now.heap c.args.table.at c.args.name.now (seen c.args.store.now.texts c.get.result) (sym c.if-is_place.ensures)
    (value ∙ ap (λ z. get (table_at c.args.store.now.heap c.args.table.at).entries (Number z)) c.place_of.ensures)

pub returns-clause-value : goal.returns-clause-value
returns-clause-value c = by-no-place c.args.store.now.heap c.args.table.at c.args.name.now (sym c.if-is_place.ensures)
