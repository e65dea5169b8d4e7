-- The steps of a store, together.
use Rattle.std.proofs.Common.{◌≡◌, ℕ, Bool, List, [], ◌∷◌, length, map, refl, sym, ap, ◌∙◌, arith}
use Rattle.lua_walk.specs.LuaHeapGraph.{IsGraph, shift_entries}
use Rattle.lua_store.specs.Seen.{StoreView}
use Rattle.lua_graph.specs.declared.graph.GraphNode.{GraphNode}
use Rattle.lua_graph.specs.declared.graph.Graph.{Graph}
use Rattle.lua_graph.specs.Plain.{plain_entries, plain_nodes, plain_graph}
use Rattle.lua_graph.specs.Put.{with_texts, put, grown, all_filled}
use Rattle.lua_graph.proofs.Joining.{joined}
use Rattle.lua_graph.proofs.Distinct.{graph-set}

as_many : {A B : Type 0} (f : A → B) (xs : List A) → length (map f xs) ≡ length xs
as_many f [] = refl
as_many f (x ∷ xs) = let e = as_many f xs in omega (arith, e)

pub put_all : (frozen : Bool) (g : Graph) (s0 s1 s2 s3 : StoreView) (n : ℕ) (texts : List (List ℕ)) → s1 ≡ record s0 { texts = with_texts s0.texts g.texts }
    → n ≡ length g.nodes → s2 ≡ record s1 { heap = grown n s1.heap } → texts ≡ g.texts → IsGraph (plain_graph g)
    → s3 ≡ record s2 { heap = all_filled frozen (length s1.heap.tables) (map (shift_entries (length s1.heap.tables)) (plain_nodes texts g.nodes)) s2.heap }
    → s3 ≡ put frozen g s0
put_all frozen g s0 s1 s2 s3 n texts e1 en e2 et w e3 =
    let k = length s0.heap.tables in
    let size : n ≡ length (map (shift_entries k) (plain_graph g)) = en ∙ sym (as_many (shift_entries k) (plain_graph g) ∙ as_many (λ (m : GraphNode). plain_entries g.texts m.entries) g.nodes) in
    e3
    ∙ ap (λ (u : StoreView). record u { heap = all_filled frozen (length s1.heap.tables) (map (shift_entries (length s1.heap.tables)) (plain_nodes texts g.nodes)) u.heap }) e2
    ∙ ap (λ (u : StoreView). record u { heap = all_filled frozen (length u.heap.tables) (map (shift_entries (length u.heap.tables)) (plain_nodes texts g.nodes)) (grown n u.heap) }) e1
    ∙ ap (λ t. record { texts = with_texts s0.texts g.texts; heap = all_filled frozen k (map (shift_entries k) (plain_nodes t g.nodes)) (grown n s0.heap); envs = s0.envs; env = s0.env }) et
    ∙ ap (λ m. record { texts = with_texts s0.texts g.texts; heap = all_filled frozen k (map (shift_entries k) (plain_graph g)) (grown m s0.heap); envs = s0.envs; env = s0.env }) size
    ∙ ap (λ h. record { texts = with_texts s0.texts g.texts; heap = h; envs = s0.envs; env = s0.env }) (joined s0.heap frozen (plain_graph g) (graph-set k (plain_graph g) w))
