use Rattle.std.proofs.Common.{rules, ◌+◌, ap, sym, ◌∙◌}
use Rattle.lua_walk.specs.LuaHeapValue.{Table}
use Rattle.lua_walk.specs.Copy as walk
use Rattle.lua_store.specs.Seen.{seen}
use Rattle.lua_graph.specs.Taken.{places}
use Rattle.lua_graph.proofs.Copies.{copy_within}
use Rattle.lua_graph.proofs.Steps.{from_at}
use Rattle.lua_graph.proofs.copying.copy_of.Goals as goal

pub bounds-tables-place_of_table : goal.bounds-tables-place_of_table
bounds-tables-place_of_table c =
    copy_within c.args.order.now.keys c.args.tables.now c.in-Table.table.at c.place_of_table.result (rw c.in-Table.is at c.requires.reached) c.requires.count c.place_of_table.ensures

pub offset_bounds-tables-place_of_table : goal.offset_bounds-tables-place_of_table
offset_bounds-tables-place_of_table c = search (rules, bounds-tables-place_of_table c)

pub returns-in-Table-clause-copy : goal.returns-in-Table-clause-copy
returns-in-Table-clause-copy c = λ k a.
    ap Table (from_at k c.args.tables.now c.place_of_table.result _ a
    (copy_within c.args.order.now.keys c.args.tables.now c.in-Table.table.at c.place_of_table.result (rw c.in-Table.is at c.requires.reached) c.requires.count c.place_of_table.ensures))
    ∙ ap (λ i. Table (k + i)) c.place_of_table.ensures
    ∙ ap (λ v. walk.copy_of k (places c.args.order.now.keys) (seen c.args.store.now.texts v)) (sym c.in-Table.is)
