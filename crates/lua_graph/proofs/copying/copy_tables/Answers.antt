use Rattle.std.proofs.Common.{rules, ◌+◌, ◌<◌, ◌≡◌, length, slice_index_or, subst, sym, ap, ◌∙◌, arith}
use Rattle.std.specs.List.{AllByRecursion}
use Rattle.std.proofs.lemmas.List.{length-map}
use Rattle.std.proofs.lemmas.Option.{slice_get_within}
use Rattle.lua_walk.specs.LuaHeapHeap.{Heap}
use Rattle.lua_store.specs.LuaHeapProc.{Proc}
use Rattle.lua_store.specs.Parts.{IsTableOf}
use Rattle.lua_store.specs.declared.ids.TableId.{TableId}
use Rattle.lua_store.proofs.Later.{later-then}
use Rattle.lua_graph.specs.Put.{AreFrom}
use Rattle.lua_graph.specs.Taken.{places}
use Rattle.lua_graph.proofs.Steps.{from_at}
use Rattle.lua_graph.proofs.Copies.{tables_stay, placed, part_none, part_all, part_on, part_target, part_closed}
use Rattle.lua_graph.proofs.copying.copy_tables.Goals as goal

pub loop-at-init : goal.loop-at-init
loop-at-init c =
    let s = c.args.store.now in
    let t = c.new_tables.new.store in record {
      put = c.in_ok-list.ensures.put ∙ ap (λ (h : Heap Proc). record s { heap = h }) (part_none s.heap (places c.args.order.now.keys) c.len.result (c.len.ensures.len ∙ sym (length-map c.args.order.now.keys (λ (i : TableId). i.at))));
      later = c.new_tables.ensures.later;
      old = tables_stay s t c.args.order.now.keys c.new_tables.ensures.later c.requires.of;
      new = subst (AllByRecursion (IsTableOf t)) (sym c.as_slice-tables.ensures) c.in_ok-list.ensures.tables.of;
    }

pub bounds-tables-at : goal.bounds-tables-at
bounds-tables-at c =
    placed c.args.order.now.keys c.as_slice-tables.result.now c.loop-at.at c.in-Some.source.at (sym c.in-Some.ensures.place) (ap length c.as_slice-tables.ensures ∙ c.in_ok-list.ensures.tables.count ∙ c.len.ensures.len)

pub offset_bounds-tables-at : goal.offset_bounds-tables-at
offset_bounds-tables-at c = search (rules, bounds-tables-at c)

pub copy_table-requires-clause-apart : goal.copy_table-requires-clause-apart
copy_table-requires-clause-apart c =
    let k = length c.args.store.now.heap.tables in
    let from = subst (AreFrom k) (sym c.as_slice-tables.ensures) c.in_ok-list.ensures.tables.from in
    let within = placed c.args.order.now.keys c.as_slice-tables.result.now c.loop-at.at c.in-Some.source.at (sym c.in-Some.ensures.place) (ap length c.as_slice-tables.ensures ∙ c.in_ok-list.ensures.tables.count ∙ c.len.ensures.len) in
    let target : (slice_index_or c.as_slice-tables.result.now c.loop-at.at (record { at = 0 })).at ≡ k + c.loop-at.at = from_at k c.as_slice-tables.result.now c.loop-at.at _ from within in
    let source : c.in-Some.source.at < k = c.in-Some.ensures.of c.args.store.now c.requires.of in
    λ e. omega (arith, target, source, e)

pub copy_table-requires-clause-empty : goal.copy_table-requires-clause-empty
copy_table-requires-clause-empty c =
    let k = length c.args.store.now.heap.tables in
    let from = subst (AreFrom k) (sym c.as_slice-tables.ensures) c.in_ok-list.ensures.tables.from in
    let within = placed c.args.order.now.keys c.as_slice-tables.result.now c.loop-at.at c.in-Some.source.at (sym c.in-Some.ensures.place) (ap length c.as_slice-tables.ensures ∙ c.in_ok-list.ensures.tables.count ∙ c.len.ensures.len) in
    part_target c.args.store.now c.loop-at.store (places c.args.order.now.keys) c.loop-at.at _ (slice_get_within (places c.args.order.now.keys) c.loop-at.at c.in-Some.source.at (sym c.in-Some.ensures.place))
    (from_at k c.as_slice-tables.result.now c.loop-at.at _ from within) c.loop-at.invariant.put

pub copy_table-requires-clause-reached : goal.copy_table-requires-clause-reached
copy_table-requires-clause-reached c =
    part_closed c.args.store.now c.loop-at.store (places c.args.order.now.keys) c.loop-at.at c.in-Some.source.at (c.in-Some.ensures.of c.args.store.now c.requires.of)
    (sym c.in-Some.ensures.place) c.loop-at.invariant.put c.requires.closed

pub returns-in-None-clause-put : goal.returns-in-None-clause-put
returns-in-None-clause-put c =
    c.loop-at.invariant.put ∙ ap (λ (h : Heap Proc). record c.args.store.now { heap = h }) (part_all c.args.store.now.heap (places c.args.order.now.keys) c.loop-at.at (sym c.in-None.ensures.place))

pub loop-at-preserved : goal.loop-at-preserved
loop-at-preserved c =
    let s = c.args.store.now in
    let k = length s.heap.tables in
    let from = subst (AreFrom k) (sym c.as_slice-tables.ensures) c.in_ok-list.ensures.tables.from in
    let within = placed c.args.order.now.keys c.as_slice-tables.result.now c.loop-at.at c.in-Some.source.at (sym c.in-Some.ensures.place) (ap length c.as_slice-tables.ensures ∙ c.in_ok-list.ensures.tables.count ∙ c.len.ensures.len) in
    let later = c.copy_table.ensures.later in record {
      put = part_on s c.loop-at.store c.copy_table.new.store (places c.args.order.now.keys) c.loop-at.at c.in-Some.source.at _ (sym c.in-Some.ensures.place) (c.in-Some.ensures.of s c.requires.of)
          (from_at k c.as_slice-tables.result.now c.loop-at.at _ from within) c.loop-at.invariant.put (c.in_ok-copy_table-in-Some.ensures.put k from);
      later = later-then s c.loop-at.store c.copy_table.new.store c.loop-at.invariant.later later;
      old = tables_stay c.loop-at.store c.copy_table.new.store c.args.order.now.keys later c.loop-at.invariant.old;
      new = tables_stay c.loop-at.store c.copy_table.new.store c.as_slice-tables.result.now later c.loop-at.invariant.new;
    }
