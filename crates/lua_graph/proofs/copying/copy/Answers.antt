use Rattle.std.proofs.Common.{subst, arith}
use Rattle.std.proofs.lemmas.List.{length-map}
use Rattle.std.proofs.lemmas.Option.{slice_get_within}
use Rattle.lua_store.specs.Parts.{IsOf}
use Rattle.lua_store.specs.declared.ids.TableId.{TableId}
use Rattle.lua_graph.specs.Taken.{places}
use Rattle.lua_graph.proofs.Made.{whole_order}
use Rattle.lua_graph.proofs.copying.copy.Goals as goal

pub copy_tables-requires-clause-rooted : goal.copy_tables-requires-clause-rooted
copy_tables-requires-clause-rooted c =
    let order = whole_order c.args.store.now c.in-Table.root.at (places c.in_ok-order.order.keys) (subst (IsOf c.args.store.now) c.in-Table.is c.requires) c.names_what_is_there.ensures c.in_ok-order.ensures.order in
    let within = slice_get_within (places c.in_ok-order.order.keys) 0 c.in-Table.root.at order.first in
    let size = length-map c.in_ok-order.order.keys (λ (i : TableId). i.at) in
    omega (arith, within, size)

pub copy_tables-requires-clause-closed : goal.copy_tables-requires-clause-closed
copy_tables-requires-clause-closed c =
    (whole_order c.args.store.now c.in-Table.root.at (places c.in_ok-order.order.keys) (subst (IsOf c.args.store.now) c.in-Table.is c.requires) c.names_what_is_there.ensures c.in_ok-order.ensures.order).closed
