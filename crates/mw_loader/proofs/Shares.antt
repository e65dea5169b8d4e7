-- What was taken out and put in is shared.
use Rattle.std.proofs.Common.{◌≡◌, ℕ, ◌+◌, ◌-◌, ◌<◌, ◌≤◌, true, length, map, sym, ap, ◌∙◌, subst, arith, length-append}
use Rattle.std.specs.Prelude.{Ok}
use Rattle.std.proofs.lemmas.List.{length-map}
use Rattle.lua_store.specs.LuaHeapProc.{proc_names}
use Rattle.lua_store.specs.LuaHeapReach.{is_there}
use Rattle.lua_graph.specs.LuaHeapGraph as plain
use Rattle.lua_graph.specs.LuaHeapGraph.{node_table, graph_tables, shift_entries, join, joined_root}
use Rattle.lua_graph.specs.LuaWalkData.{taken, texts_of}
use Rattle.lua_graph.specs.LuaWalkLaws.{Leads}
use Rattle.lua_graph.proofs.LuaWalkWalkLaws.{taken_is_reached}
use Rattle.lua_store.specs.declared.value.Value.{Value}
use Rattle.lua_store.specs.declared.value.Value.TheVariants as own
use Rattle.lua_store.specs.Laws.{NamesWhatIsThere}
use Rattle.lua_store.specs.Parts.{IsOf}
use Rattle.lua_store.specs.Seen.{StoreView, seen}
use Rattle.lua_graph.specs.declared.graph.Graph.{Graph}
use Rattle.lua_graph.specs.Plain.{plain_graph}
use Rattle.lua_graph.specs.Put.{put, with_texts}
use Rattle.lua_graph.proofs.Made.{there}
use Rattle.mw_loader.specs.Shared.{IsSharedData}

-- data stand in a table
module _ (s t : StoreView) (g : plain.Graph) (names : NamesWhatIsThere s) (is : t.heap ≡ join true g s.heap) where
  size : length t.heap.tables ≡ length s.heap.tables + length g
  size =
      let k = length s.heap.tables in
      ap (λ h. length h.tables) is
      ∙ length-append s.heap.tables (graph_tables true (map (shift_entries k) g))
      ∙ ap (λ n. k + n) (length-map (map (shift_entries k) g) (node_table true) ∙ length-map g (shift_entries k))

  new_reached : (v : Value) → IsOf s v → taken s.heap (seen s.texts v) ≡ Ok g → (n : ℕ) → length s.heap.tables ≤ n → n < length t.heap.tables → Leads t.heap (length s.heap.tables) n
  new_reached (own.Table id) of e n above below =
      let k = length s.heap.tables in
      let at : n ≡ k + (n - k) = omega (arith, above) in
      let within : n - k < length g = omega (arith, above, below, size) in
      subst (λ h. Leads h k n) (sym is) (subst (Leads (join true g s.heap) k) (sym at) (taken_is_reached proc_names (is_there s.heap) s.heap s.heap id.at (n - k) true g names (there s.heap id.at of) e within))
  new_reached own.Nil of e n above below = cc
  new_reached (own.Bool b) of e n above below = cc
  new_reached (own.Number i) of e n above below = cc
  new_reached (own.Text i) of e n above below = cc
  new_reached (own.Closure i) of e n above below = cc
  new_reached (own.Builtin i) of e n above below = cc
  new_reached (own.Markup i) of e n above below = cc

pub shared : (s t : StoreView) (v root : Value) (g : Graph) → NamesWhatIsThere s → IsOf s v → taken s.heap (seen s.texts v) ≡ Ok (plain_graph g) → g.texts ≡ texts_of (plain_graph g)
    → t ≡ put true g s → seen t.texts root ≡ joined_root s.heap → IsSharedData s v t root
shared s t v root g names of e texts is root_ = record {
  graph = plain_graph g;
  taken_is = e;
  store = is ∙ ap (λ ts. record { texts = with_texts s.texts ts; heap = join true (plain_graph g) s.heap; envs = s.envs; env = s.env }) texts;
  root_is = root_;
  reached = new_reached s t (plain_graph g) names (ap (λ (x : StoreView). x.heap) is) v of e;
}
