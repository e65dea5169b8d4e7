-- WHAT PUTTING A GRAPH IN MAKES OF A STORE.
use Rattle.std.specs.Prelude.{◌≡◌, ℕ, zero, suc, ◌+◌, Bool, true, false, List, [], ◌∷◌, length, map}
use Rattle.std.specs.List.{AllByRecursion}
use Rattle.lua_store.specs.LuaHeapTable.{Entries}
use Rattle.lua_walk.specs.LuaHeapHeap.{Heap, set_in, freeze_in, new_table}
use Rattle.lua_walk.specs.LuaHeapGraph as plain
use Rattle.lua_walk.specs.LuaHeapGraph.{IsGraph, join}
use Rattle.lua_store.specs.declared.ids.TextId.{TextId}
use Rattle.lua_store.specs.declared.ids.TableId.{TableId}
use Rattle.lua_store.specs.Seen.{StoreView, text_at}
use Rattle.lua_store.specs.Parts.{IsTextOf, IsTableOf, with_text}
use Rattle.lua_graph.specs.declared.graph.GraphNode.{GraphNode}
use Rattle.lua_graph.specs.declared.graph.Graph.{Graph}
use Rattle.lua_graph.specs.Plain.{plain_graph, IsEntryOf}

abbrev pub AreEntriesOf : ℕ → ℕ → GraphNode → Type 0
AreEntriesOf nodes texts n = AllByRecursion (IsEntryOf nodes texts) n.entries

-- what is named is there, the keys of a table differ, and there is a root
pub record IsMade (g : Graph) : Type 0 where
  pub named : AllByRecursion (AreEntriesOf (length g.nodes) (length g.texts)) g.nodes
  pub plain : IsGraph (plain_graph g)

-- the texts of a store with these, each where it is not among them
abbrev pub with_texts : List (List ℕ) → List (List ℕ) → List (List ℕ)
with_texts held [] = held
with_texts held (t ∷ ts) = with_texts (with_text held t) ts

-- the texts of the graph are there, its tables stand behind those that were there, and nothing else changed
abbrev pub put : Bool → Graph → StoreView → StoreView
put frozen g s = record { texts = with_texts s.texts g.texts; heap = join frozen (plain_graph g) s.heap; envs = s.envs; env = s.env }

-- THE STEPS, one change of a heap after another
-- so many new tables
abbrev pub grown : {X : Type 0} → ℕ → Heap X → Heap X
grown zero h = h
grown (suc n) h = grown n (new_table h).0

-- a table after these sets
abbrev pub filled : {X : Type 0} → ℕ → Entries → Heap X → Heap X
filled t [] h = h
filled t (e ∷ es) h = filled t es (set_in h t e.0 e.1)

-- made read-only, where that is asked
abbrev pub locked : {X : Type 0} → Bool → ℕ → Heap X → Heap X
locked true t h = freeze_in h t
locked false t h = h

-- tables from a place on, each filled and locked
abbrev pub all_filled : {X : Type 0} → Bool → ℕ → plain.Graph → Heap X → Heap X
all_filled frozen k [] h = h
all_filled frozen k (es ∷ g) h = all_filled frozen (k + 1) g (locked frozen k (filled k es h))

-- names of tables from a place on; names of texts
abbrev pub AreFrom : ℕ → List TableId → Type 0
AreFrom k [] = Unit {0}
AreFrom k (t ∷ ts) = (t.at ≡ k) × AreFrom (k + 1) ts

abbrev pub named : List (List ℕ) → List TextId → List (List ℕ)
named texts ns = map (λ (n : TextId). text_at texts n.at) ns

pub record AreNames (s : StoreView) (texts : List (List ℕ)) (ns : List TextId) : Type 0 where
  pub of : AllByRecursion (IsTextOf s) ns
  pub same : named s.texts ns ≡ texts

pub record AreTables (s : StoreView) (k n : ℕ) (ts : List TableId) : Type 0 where
  pub of : AllByRecursion (IsTableOf s) ts
  pub from : AreFrom k ts
  pub count : length ts ≡ n
