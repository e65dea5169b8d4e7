-- What is taken out is a graph that can be put in.
use Rattle.std.proofs.Common.{◌≡◌, ℕ, zero, suc, ◌<◌, List, [], ◌∷◌, length, refl, sym, ap, ◌∙◌, subst, arith, IsTrue, is_some, slice_get}
use Rattle.std.specs.Option.{option_map}
use Rattle.std.specs.Prelude.{Ok}
use Rattle.std.specs.List.{AllByRecursion}
use Rattle.std.proofs.lemmas.List.{length-map}
use Rattle.lua_walk.specs.LuaHeapValue as heap
use Rattle.lua_walk.specs.LuaTableEntries.{Contents}
use Rattle.lua_walk.specs.LuaHeapHeap.{Heap, Obj, tab, TableObj, table_at}
use Rattle.lua_store.specs.LuaHeapProc.{Proc, proc_names}
use Rattle.lua_walk.specs.LuaHeapReach.{is_there}
use Rattle.lua_walk.specs.LuaHeapGraph.{IsKey, IsItem, IsDatum, IsGraph}
use Rattle.lua_walk.specs.Order.{reached}
use Rattle.lua_walk.specs.Data.{all_ok, node_of, taken}
use Rattle.lua_walk.specs.Laws.{IsOrder}
use Rattle.lua_walk.proofs.WalkLaws.{reached_is_all, taken_is_graph}
use Rattle.lua_store.specs.declared.ids.TextId.{TextId}
use Rattle.lua_store.specs.Seen.{StoreView, text_at}
use Rattle.lua_store.specs.Laws.{NamesWhatIsThere, KeysAreOnce}
use Rattle.lua_graph.specs.declared.graph.GraphItem.{GraphItem}
use Rattle.lua_graph.specs.declared.graph.GraphItem.TheVariants as item
use Rattle.lua_graph.specs.declared.graph.GraphEntry.{GraphEntry}
use Rattle.lua_graph.specs.declared.graph.GraphNode.{GraphNode}
use Rattle.lua_graph.specs.declared.graph.Graph.{Graph}
use Rattle.lua_graph.specs.Plain.{plain_item, plain_entries, plain_nodes, plain_graph, IsItemOf, IsEntryOf}
use Rattle.lua_graph.specs.Put.{named, AreEntriesOf, IsMade}
use Rattle.lua_graph.specs.Taken.{IsTextIn, AreTextsIn, NodesAreRead}

module _ (ts : List (List ℕ)) (n m : ℕ) where
  value_made : (i : GraphItem) → IsItem n (plain_item ts i) → IsTextIn m i → IsItemOf n m i
  value_made (item.Bool b) h t = tt
  value_made (item.Number k) h t = tt
  value_made (item.Text k) h t = t
  value_made (item.Node k) h t = h

  key_made : (i : GraphItem) → IsKey (plain_item ts i) → IsTextIn m i → IsItemOf n m i
  key_made (item.Bool b) h t = tt
  key_made (item.Number k) h t = tt
  key_made (item.Text k) h t = t
  key_made (item.Node k) h t = absurd h

  entries_made : (es : List GraphEntry) → AllByRecursion (IsDatum n) (plain_entries ts es) → AllByRecursion (AreTextsIn m) es → AllByRecursion (IsEntryOf n m) es
  entries_made [] h t = tt
  entries_made (e ∷ es) h t = ((key_made e.key h.0.0 t.0.0, value_made e.value h.0.1 t.0.1), entries_made es h.1 t.1)

  nodes_made : (ns : List GraphNode) → AllByRecursion (AllByRecursion (IsDatum n)) (plain_nodes ts ns) → AllByRecursion (λ (x : GraphNode). AllByRecursion (AreTextsIn m) x.entries) ns → AllByRecursion (AreEntriesOf n m) ns
  nodes_made [] h t = tt
  nodes_made (x ∷ ns) h t = (entries_made x.entries h.0 t.0, nodes_made ns h.1 t.1)

pub made : (g : Graph) → IsGraph (plain_graph g) → AllByRecursion (λ (x : GraphNode). AllByRecursion (AreTextsIn (length g.texts)) x.entries) g.nodes → IsMade g
made g w t =
    let size : length (plain_graph g) ≡ length g.nodes = length-map g.nodes (λ (x : GraphNode). plain_entries g.texts x.entries) in
    record { named = nodes_made g.texts (length g.nodes) (length g.texts) g.nodes (subst (λ n. AllByRecursion (AllByRecursion (IsDatum n)) (plain_graph g)) size w.data_) t; plain = w }

pub there : (h : Heap Proc) (n : ℕ) → n < length h.tables → IsTrue (is_there h (tab n))
there h n within = go h.tables n within
  where
    go : (ts : List (Contents heap.Value)) (n : ℕ) → n < length ts → IsTrue (is_some (option_map (λ (t : Contents heap.Value). let o : Obj Proc = TableObj t in o) (slice_get ts n)))
    go [] n within = absurd (omega (arith, within))
    go (t ∷ ts) zero within = refl
    go (t ∷ ts) (suc n) within = go ts n (omega (arith, within))

-- the order of a table of a store
pub whole_order : (s : StoreView) (t : ℕ) (order : List ℕ) → t < length s.heap.tables → NamesWhatIsThere s → order ≡ reached s.heap t → IsOrder s.heap t order
whole_order s t order within names is = subst (IsOrder s.heap t) (sym is) (reached_is_all proc_names (is_there s.heap) s.heap t names (there s.heap t within))

-- of the tables of a table's order, with their texts
pub made_of : (s : StoreView) (t : ℕ) (order : List ℕ) (before ids : List TextId) (ns : List GraphNode) (bytes : List (List ℕ)) → t < length s.heap.tables → NamesWhatIsThere s → KeysAreOnce s
    → order ≡ reached s.heap t → bytes ≡ named s.texts ids → NodesAreRead s before ids (all_ok (λ n. node_of order (table_at s.heap n)) order) ns → IsMade (record { nodes = ns; texts = bytes })
made_of s t order before ids ns bytes within names keys is same r =
    let g : Graph = record { nodes = ns; texts = bytes } in
    let size = length-map ids (λ (i : TextId). text_at s.texts i.at) in
    let taken_is : taken s.heap (heap.Table t) ≡ Ok (plain_graph g) =
    ap (λ o. all_ok (λ n. node_of o (table_at s.heap n)) o) (sym is) ∙ r.nodes ∙ ap (λ l. Ok (plain_nodes l ns)) (sym same) in
    made g (taken_is_graph proc_names (is_there s.heap) s.heap t (plain_graph g) names (there s.heap t within) keys taken_is)
    (subst (λ n. AllByRecursion (λ (x : GraphNode). AllByRecursion (AreTextsIn n) x.entries) ns) (sym size ∙ ap length (sym same)) r.placed)
