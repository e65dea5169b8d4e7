use Rattle.std.proofs.Common.{arith, length, sym, ◌+◌, ◌-◌, ◌∙◌}
use Rattle.lua_graph.specs.Taken.{places}
use Rattle.lua_graph.proofs.Places.{visit_step}
use Rattle.lua_graph.proofs.order.reached.Goals as goal

pub loop-at-preserved : goal.loop-at-preserved
loop-at-preserved c =
    let tables = length c.args.store.now.heap.tables in record {
      of = c.in_ok-reach_links-in-Some.ensures.of;
      more = visit_step c.args.store.now.heap (tables - c.loop-at.at) (tables - (c.loop-at.at + 1)) c.loop-at.at c.in-Some.table.at (places c.loop-at.order.keys) (places c.reach_links.new.order.keys)
          (omega (arith, c.loop-at-test.true, c.table_count-at-end.ensures)) (sym c.in-Some.ensures.place) c.in_ok-reach_links-in-Some.ensures.order
          ∙ c.loop-at.invariant.more;
    }
