use Rattle.std.proofs.Common.{◌+◌, drop, sym, ap, ◌∙◌}
use Rattle.lua_walk.specs.LuaHeapHeap.{table_at}
use Rattle.lua_walk.specs.Order.{with_value, with_entries}
use Rattle.lua_graph.specs.Taken.{places}
use Rattle.lua_graph.proofs.order.reach_links.Goals as goal

pub loop-at-init : goal.loop-at-init
loop-at-init c = record {
  of = c.in_ok-reach_value.ensures.of c.args.store.now c.requires.order c.meta.ensures.of;
  more = ap (λ o. with_entries o (table_at c.args.store.now.heap c.args.table.at).entries)
      (c.in_ok-reach_value.ensures.order c.args.store.now.texts ∙ ap (with_value (places c.args.order.now.keys)) c.meta.ensures.meta);
}

pub loop-at-preserved : goal.loop-at-preserved
loop-at-preserved c = record {
  of = c.in_ok-reach_value-in-Some.ensures.of c.args.store.now c.loop-at.invariant.of c.in-Some.ensures.of.1;
  more = ap (λ o. with_entries o (drop (c.loop-at.at + 1) (table_at c.args.store.now.heap c.args.table.at).entries)) (c.in_ok-reach_value-in-Some.ensures.order c.args.store.now.texts)
      ∙ ap (with_entries (places c.loop-at.order.keys)) (sym c.in-Some.ensures.entry) ∙ c.loop-at.invariant.more;
}
