use Rattle.std.proofs.Common.{sym, subst, w64, pos, ◌+ℤ◌, Err}
use Rattle.std.proofs.lemmas.Int.{to_z-of_z}
use Rattle.lua_number.proofs.Operations.{does_fit, not_fits}
use Rattle.lua_basic.specs.LuaStoreSeen.{seen}
use Rattle.lua_basic.specs.Seen.{Free, Paid}
use Rattle.lua_basic.proofs.Found.{for_nothing}
use Rattle.lua_basic.specs.LuaMeaningTableLibrary.{insert_values}
use Rattle.lua_tables.proofs.Moved.{insert-fits, insert-far}
use Rattle.lua_tables.proofs.inserting.insert_values.Goals as goal

pub returns-in-Some-clause-answer : goal.returns-in-Some-clause-answer
returns-in-Some-clause-answer c =
    let place = to_z-of_z w64 c.args.place c.ranges.place in
    let inside = rw place at c.in-Some.ensures.0 in
    let v = seen c.args.store.now.texts c.args.value in
    let whole = insert-fits c.args.table.at c.args.place c.args.moved v c.args.store.now.heap (does_fit (c.args.place +ℤ pos c.args.moved) inside) in
    let answer = rw place at c.insert_fitting.ensures.answer in
    subst (λ q. Paid q c.args.store.now c.args.left.now c.insert_fitting.new.store c.insert_fitting.new.left c.insert_fitting.result) (sym whole) answer

pub returns-in-None-clause-answer : goal.returns-in-None-clause-answer
returns-in-None-clause-answer c =
    let place = to_z-of_z w64 c.args.place c.ranges.place in
    let outside = rw place at c.in-None.ensures in
    let v = seen c.args.store.now.texts c.args.value in
    let whole = insert-far c.args.table.at c.args.place c.args.moved v c.args.store.now.heap (not_fits (c.args.place +ℤ pos c.args.moved) outside) in
    for_nothing (insert_values c.args.table.at c.args.place c.args.moved v c.args.store.now.heap) c.args.store.now c.fail.new.store c.args.left.now (Err c.fail.result)
    (subst (λ q. Free q c.fail.new.store (Err c.fail.result)) (sym whole) c.fail.ensures.raises)
