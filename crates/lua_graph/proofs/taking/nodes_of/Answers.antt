use Rattle.std.proofs.Common.{rules, ◌≡◌, ◌++◌, ◌∷◌, [], sym}
use Rattle.lua_walk.specs.LuaHeapHeap.{table_at}
use Rattle.lua_walk.specs.Data.{node_of}
use Rattle.lua_graph.specs.Taken.{places}
use Rattle.lua_graph.proofs.Places.{drop_at, drop_past}
use Rattle.lua_graph.proofs.Checks.{nodes_on, nodes_end, nodes_fault}
use Rattle.lua_graph.proofs.taking.nodes_of.Goals as goal

pub returns-in-None-clause-ok : goal.returns-in-None-clause-ok
returns-in-None-clause-ok c =
    nodes_end c.args.store.now (λ n. node_of (places c.args.order.now.keys) (table_at c.args.store.now.heap n)) (places c.args.order.now.keys) c.args.texts.now.keys
    c.loop-at.texts.keys c.loop-at.at c.loop-at.nodes (drop_past (places c.args.order.now.keys) c.loop-at.at (sym c.in-None.ensures.place)) c.loop-at.invariant

pub returns-in-Err-clause-err : goal.returns-in-Err-clause-err
returns-in-Err-clause-err c =
    nodes_fault c.args.store.now (λ n. node_of (places c.args.order.now.keys) (table_at c.args.store.now.heap n)) (places c.args.order.now.keys) c.args.texts.now.keys
    c.loop-at.texts.keys c.loop-at.at c.in-Some.table.at c.loop-at.nodes c.in-Err.fault (drop_at (places c.args.order.now.keys) c.loop-at.at c.in-Some.table.at (sym c.in-Some.ensures.place)) c.in-Err.ensures.err c.loop-at.invariant

pub loop-at-preserved : goal.loop-at-preserved
loop-at-preserved c =
    let pushed : c.push.new.self ≡ c.loop-at.nodes ++ record { entries = c.in-Ok.entries } ∷ [] = search rules in
    nodes_on c.args.store.now (λ n. node_of (places c.args.order.now.keys) (table_at c.args.store.now.heap n)) (places c.args.order.now.keys) c.args.texts.now.keys
    c.loop-at.texts.keys c.entries_of.new.texts.keys c.loop-at.at c.in-Some.table.at c.loop-at.nodes c.push.new.self c.in-Ok.entries
    (drop_at (places c.args.order.now.keys) c.loop-at.at c.in-Some.table.at (sym c.in-Some.ensures.place)) c.in-Ok.ensures.ok pushed c.loop-at.invariant
