use Rattle.std.proofs.Common.{sym, subst}
use Rattle.lua_walk.specs.LuaHeapHeap.{table_at}
use Rattle.lua_walk.specs.Data.{all_ok, node_of, taken}
use Rattle.lua_store.specs.Seen.{seen}
use Rattle.lua_store.specs.Parts.{IsOf}
use Rattle.lua_graph.specs.Taken.{places, IsFault}
use Rattle.lua_graph.proofs.Made.{made_of}
use Rattle.lua_graph.proofs.taking.take_out.Goals as goal

pub returns-in-Err-nodes_of-clause-fault : goal.returns-in-Err-nodes_of-clause-fault
returns-in-Err-nodes_of-clause-fault c =
    subst (λ v. IsFault (taken c.args.store.now.heap (seen c.args.store.now.texts v)) c.in-Err-nodes_of.fault) (sym c.in-Table.is)
    (subst (λ o. IsFault (all_ok (λ n. node_of o (table_at c.args.store.now.heap n)) o) c.in-Err-nodes_of.fault) c.in-Ok.ensures.order c.in-Err-nodes_of.ensures.err)

pub returns-in-Ok-bytes_of-clause-made : goal.returns-in-Ok-bytes_of-clause-made
returns-in-Ok-bytes_of-clause-made c =
    made_of c.args.store.now c.in-Table.root.at (places c.in-Ok.order.keys) c.new-texts.result.keys c.nodes_of.new.texts.keys c.in-Ok-nodes_of.nodes c.in-Ok-bytes_of.texts
    (subst (IsOf c.args.store.now) c.in-Table.is c.requires) c.names_what_is_there.ensures c.keys_are_once.ensures c.in-Ok.ensures.order c.in-Ok-bytes_of.ensures c.in-Ok-nodes_of.ensures.ok
