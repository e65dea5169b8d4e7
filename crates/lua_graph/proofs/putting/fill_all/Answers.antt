use Rattle.std.proofs.Common.{rules, ◌≡◌, ◌+◌, length, map, slice_index_or, subst, ap, ◌∙◌, arith}
use Rattle.std.specs.List.{AllByRecursion}
use Rattle.lua_walk.specs.LuaHeapGraph.{shift_entries}
use Rattle.lua_store.specs.Seen.{StoreView}
use Rattle.lua_store.proofs.Later.{later-then}
use Rattle.lua_graph.specs.Plain.{plain_entries, plain_nodes}
use Rattle.lua_graph.specs.Put.{AreEntriesOf, filled, named}
use Rattle.lua_graph.proofs.Steps.{from_at}
use Rattle.lua_graph.proofs.Joining.{node_on}
use Rattle.lua_graph.proofs.putting.fill_all.Goals as goal

pub loop-node-preserved : goal.loop-node-preserved
loop-node-preserved c =
    let is = c.in-Some.ensures in
    let within : c.loop-node.at + (1 + length c.in-Some.more.now) ≡ length c.args.tables.now = omega (arith, ap length is, c.loop-node.invariant.count) in
    let init = c.args.store.now in
    let s = c.loop-node.store in
    let u = c.fill.new.store in
    let t = (slice_index_or c.args.tables.now c.loop-node.at (record { at = 0 })).at in
    let texts = ap (λ (x : StoreView). named x.texts c.args.names.now) c.loop-node.invariant.put in
    let same : plain_entries (named s.texts c.args.names.now) c.as_slice.result.now ≡ plain_entries (named init.texts c.args.names.now) c.in-Some.node.now.entries =
    ap (λ t. plain_entries t c.as_slice.result.now) texts ∙ ap (plain_entries (named init.texts c.args.names.now)) c.as_slice.ensures in record {
      nodes = (subst (AllByRecursion (AreEntriesOf (length c.args.tables.now) (length c.args.names.now))) is c.loop-node.invariant.nodes).1;
      count = omega (arith, within);
      put = search rules;
      later = later-then init u c.lock.new.store (later-then init s u c.loop-node.invariant.later c.fill.ensures.later) c.lock.ensures.later;
      more = λ k a.
          node_on c.args.frozen k c.loop-node.at t (shift_entries k (plain_entries (named init.texts c.args.names.now) c.in-Some.node.now.entries))
          (map (shift_entries k) (plain_nodes (named init.texts c.args.names.now) c.in-Some.more.now))
          (map (shift_entries k) (plain_nodes (named init.texts c.args.names.now) c.loop-node.rest.now)) s.heap u.heap c.lock.new.store.heap
          (from_at k c.args.tables.now c.loop-node.at _ a (omega (arith, within)))
          (ap (λ r. map (shift_entries k) (plain_nodes (named init.texts c.args.names.now) r)) is)
          (ap (λ (x : StoreView). x.heap) (c.in_ok-fill.ensures.put k a) ∙ ap (λ es. filled t (shift_entries k es) s.heap) same)
          (ap (λ (x : StoreView). x.heap) c.lock.ensures.put)
          ∙ c.loop-node.invariant.more k a;
    }
