-- GRAPHS OF DATA: tables that hold truth values, numbers, texts and each other (Scribunto, mw.loadData). The tables are
-- numbered from 0 within the graph; a heap takes them in as new tables behind its own.
use Rattle.std.specs.Prelude.{◌≡◌, ◌⊎◌, ℕ, ◌+◌, ◌<◌, Bool, true, false, List, ◌++◌, length, map, Some, None, IsTrue, is_some}
use Rattle.std.specs.List.{AllByRecursion}
use Rattle.lua_table.specs.Entries.{Contents}
use Rattle.lua_heap.specs.Value.{Value, Nil, Truth, Number, Text, Table}
use Rattle.lua_heap.specs.Table.{Entries, HasValueKeys}
use Rattle.lua_heap.specs.Heap.{Heap, Ref, tab, Obj, look, empty, IsShared}
use Rattle.lua_heap.specs.Related.{Map, Grows, Same, Stands}
use Rattle.lua_heap.specs.Reach.{Set, nowhere, union, is_there, Frame}

-- the entries of each table
abbrev pub Graph : Type 0
Graph = List Entries

abbrev pub node_table : Bool → Entries → Contents Value
node_table frozen es = record { entries = es; meta = Nil; frozen = frozen }

abbrev pub graph_tables : Bool → Graph → List (Contents Value)
graph_tables frozen g = map (node_table frozen) g

-- a graph as a heap with nothing else in it, which can hold no function
abbrev pub graph_heap : Bool → Graph → Heap ⊥
graph_heap frozen g = record empty { tables = graph_tables frozen g }

-- what relates the contents of its functions, which it doesn't have
abbrev pub NoFunctions : {X : Type 0} → Map → ⊥ → X → Type 0
NoFunctions m a b = ⊥

-- keys are truth values, numbers or texts; values are those or tables of the graph
abbrev pub IsKey : Value → Type 0
IsKey (Truth b) = Unit {0}
IsKey (Number n) = Unit {0}
IsKey (Text bytes) = Unit {0}
IsKey _ = ⊥

abbrev pub IsItem : ℕ → Value → Type 0
IsItem size (Table t) = t < size
IsItem size v = IsKey v

abbrev pub IsDatum : ℕ → Value × Value → Type 0
IsDatum size e = IsKey e.0 × IsItem size e.1

-- the keys of each table differ, and the root is table 0
pub record IsGraph (g : Graph) : Type 0 where
  pub rooted : 0 < length g
  pub data_ : AllByRecursion (AllByRecursion (IsDatum (length g))) g
  pub keys : AllByRecursion HasValueKeys g

-- a value of a graph where k tables stand before those of the graph
abbrev pub shift : ℕ → Value → Value
shift k (Table t) = Table (k + t)
shift k v = v

abbrev pub shift_entries : ℕ → Entries → Entries
shift_entries k es = map (λ e. (shift k e.0, shift k e.1)) es

-- the heap with the tables of a graph, and the value that the graph's root is there
abbrev pub join : {X : Type 0} → Bool → Graph → Heap X → Heap X
join frozen g h = record h { tables = h.tables ++ graph_tables frozen (map (shift_entries (length h.tables)) g) }

abbrev pub joined_root : {X : Type 0} → Heap X → Value
joined_root h = Table (length h.tables)

-- all of the graph stands in t in new tables, and nothing that was in s changed
pub record IsPut {X : Type 0} (frozen : Bool) (g : Graph) (value : Value) (s t : Heap X) : Type 0 where
  pub names : Map
  pub stands : Stands NoFunctions names (graph_heap frozen g) t
  pub complete : (q : Ref) → IsTrue (is_there (graph_heap frozen g) q) → IsTrue (is_some (names.to q))
  pub root_at : Same names (Table 0) value
  pub made : (q r : Ref) → names.to q ≡ Some r → look s r ≡ None
  pub frame : Frame nowhere s t

-- K is a set of read-only tables of the heap, none of them in S, in which the graph stands with its root at that value
pub record IsKept {X : Type 0} (K S : Set) (g : Graph) (value : Value) (s : Heap X) : Type 0 where
  pub names : Map
  pub stands : Stands NoFunctions names (graph_heap true g) s
  pub root_at : Same names (Table 0) value
  pub inside : (q r : Ref) → names.to q ≡ Some r → IsTrue (K r)
  pub shared : (r : Ref) → IsTrue (K r) → (b : Obj X) × (look s r ≡ Some b) × IsShared b
  pub apart : (r : Ref) → IsTrue (K r) → S r ≡ false

-- m says how h stands in s, and now the graph stands there too, joined with h, under a larger map: what is new in it are
-- the tables of the graph, which stand in K
pub record IsJoined {X Y : Type 0} (R : Map → X → Y → Type 0) (m : Map) (S K : Set) (frozen : Bool) (g : Graph) (value : Value) (h : Heap X) (s : Heap Y) : Type 0 where
  pub names : Map
  pub grows : Grows m names
  pub stands : Stands R names (join frozen g h) s
  pub root_at : Same names (joined_root h) value
  pub inside : (q r : Ref) → names.to q ≡ Some r → IsTrue (union S K r)
  pub news : (q r : Ref) → names.to q ≡ Some r → (m.to q ≡ Some r) ⊎ ((n : ℕ) × (n < length g) × (q ≡ tab (length h.tables + n)) × IsTrue (K r))
  pub old : (q : Ref) (a : Obj X) → look h q ≡ Some a → look (join frozen g h) q ≡ Some a
  pub private : (q : Ref) (a : Obj X) → look h q ≡ Some a → m.to q ≡ None → names.to q ≡ None
