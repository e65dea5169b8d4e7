use Rattle.std.proofs.Common.{◌+◌, ◌∙◌, ap, drop, subst, sym}
use Rattle.std.specs.List.{AllByRecursion, Contains}
use Rattle.lua_walk.specs.LuaTableEntries.{Contents}
use Rattle.lua_walk.specs.LuaHeapValue as heap
use Rattle.lua_walk.specs.LuaHeapHeap.{table_at}
use Rattle.lua_walk.specs.Copy.{copy_of}
use Rattle.lua_walk.specs.Laws.{links}
use Rattle.lua_store.specs.Seen.{seen}
use Rattle.lua_graph.specs.Taken.{places}
use Rattle.lua_graph.proofs.Copies.{entry_reached, copied_in}
use Rattle.lua_graph.proofs.copying.copy_table.Goals as goal

pub copy_entry-requires-clause-reached : goal.copy_entry-requires-clause-reached
copy_entry-requires-clause-reached c =
    let now = table_at c.loop-at.store.heap c.args.source.at in
    entry_reached (places c.args.order.now.keys) now c.loop-at.at (seen c.loop-at.store.texts c.in-Some.entry.0, seen c.loop-at.store.texts c.in-Some.entry.1)
    (drop (c.loop-at.at + 1) now.entries) c.in-Some.ensures.entry
    (subst (λ (t : Contents heap.Value). AllByRecursion (Contains (places c.args.order.now.keys)) (links t)) (sym c.loop-at.invariant.same) c.requires.reached)

pub returns-in-None-clause-put : goal.returns-in-None-clause-put
returns-in-None-clause-put c = λ k a.
    let was = table_at c.args.store.now.heap c.args.source.at in
    copied_in c.args.store.now c.set_meta.new.self c.loop-at.store c.args.source.at c.args.target.at k (places c.args.order.now.keys) (seen c.args.store.now.texts c.copy_of-meta.result) (drop c.loop-at.at was.entries)
    c.requires.target c.requires.empty (c.keys_are_once.ensures c.args.source.at) c.set_meta.ensures.set
    (c.copy_of-meta.ensures.copy k a ∙ ap (copy_of k (places c.args.order.now.keys)) c.meta.ensures.meta) c.loop-at.invariant.only
    (c.loop-at.invariant.more k a)
    (ap (λ (t : Contents heap.Value). drop c.loop-at.at t.entries) (sym c.loop-at.invariant.same) ∙ c.in-None.ensures.entry)
