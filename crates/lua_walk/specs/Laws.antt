-- LAWS OF THE WALK, OF DATA AND OF COPIES
use Rattle.std.specs.Prelude.{◌≡◌, ℕ, ◌+◌, ◌<◌, ◌≤◌, Bool, eqb, List, [], ◌∷◌, ◌++◌, length, Ok, Some, IsTrue, slice_get}
use Rattle.std.specs.List.{AllByRecursion, Contains, IsDistinct, flat_map}
use Rattle.lua_heap.specs.LuaTableEntries.{Contents}
use Rattle.lua_heap.specs.Value.{Value, Table}
use Rattle.lua_heap.specs.Table.{HasValueKeys}
use Rattle.lua_heap.specs.Heap.{Heap, Ref, tab, table_at}
use Rattle.lua_heap.specs.Related.{Map, Same, GrowsWith, Stands, Moved}
use Rattle.lua_heap.specs.Reach.{Set, nowhere, Frame, FreezesNone, IsClosed}
use Rattle.lua_heap.specs.Graph.{Graph, IsGraph, join}
use Rattle.lua_walk.specs.Order.{visit, reached}
use Rattle.lua_walk.specs.Data.{taken}
use Rattle.lua_walk.specs.Copy.{copied, copy_cost}

-- the tables that a table leads to: its metatable, and the values of its entries
abbrev pub table_in : Value → List ℕ
table_in (Table t) = t ∷ []
table_in v = []

abbrev pub links : Contents Value → List ℕ
links t = table_in t.meta ++ flat_map (λ e. table_in e.1) t.entries

-- from table t steps lead to a table
pub data Leads {X : Type 0} (h : Heap X) (t : ℕ) : ℕ → Type 0 where
  root : Leads h t t
  step : (n m : ℕ) → Leads h t n → Contains (links (table_at h n)) m → Leads h t m

-- The order begins with t and has each table once: all to which steps lead from t, and no other.
pub record IsOrder {X : Type 0} (h : Heap X) (t : ℕ) (order : List ℕ) : Type 0 where
  pub first : slice_get order 0 ≡ Some t
  pub once : IsDistinct eqb order
  pub there : AllByRecursion (λ n. n < length h.tables) order
  pub leads : AllByRecursion (Leads h t) order
  pub closed : AllByRecursion (λ n. AllByRecursion (Contains order) (links (table_at h n))) order

module _ (X : Type 0) where
  -- In a heap with a closed set that has t, as is that of all objects where whatever is named is there, as many visits as
  -- the heap has tables are enough,
  abbrev pub ReachedIsAll : Type 0
  ReachedIsAll = (names : X → List Ref) (S : Set) (h : Heap X) (t : ℕ) → IsClosed names S h → IsTrue (S (tab t)) → IsOrder h t (reached h t)

  -- and more find nothing more.
  abbrev pub MoreFindNothing : Type 0
  MoreFindNothing = (names : X → List Ref) (S : Set) (h : Heap X) (t n : ℕ) → IsClosed names S h → IsTrue (S (tab t)) → length h.tables ≤ n → visit n h 0 (t ∷ []) ≡ reached h t

  -- What is taken is a graph, where the keys of each table differ.
  abbrev pub TakenIsGraph : Type 0
  TakenIsGraph = (names : X → List Ref) (S : Set) (h : Heap X) (t : ℕ) (g : Graph) → IsClosed names S h → IsTrue (S (tab t)) → ((n : ℕ) → HasValueKeys (table_at h n).entries)
      → taken h (Table t) ≡ Ok g → IsGraph g

  -- Each table of what is taken is reached from its root, also where it joined another heap.
  abbrev pub TakenIsReached : Type 0
  TakenIsReached = (names : X → List Ref) (S : Set) (h s : Heap X) (t n : ℕ) (frozen : Bool) (g : Graph) → IsClosed names S h → IsTrue (S (tab t))
      → taken h (Table t) ≡ Ok g → n < length g → Leads (join frozen g s) (length s.tables) (length s.tables + n)

  -- A copy changes nothing that is there, and freezes none.
  abbrev pub CopyChangesNothing : Type 0
  CopyChangesNothing = (h : Heap X) (v : Value) → Frame nowhere h (copied h v).0 × FreezesNone h (copied h v).0

-- WHERE A HEAP STANDS IN ANOTHER ONE, a value and what stands for it are the same data; copies of them cost the same, and
-- stand for each other.
module _ {X Y : Type 0} (R : Map → X → Y → Type 0) where
  abbrev pub TakenIsSame : Type 0
  TakenIsSame = (m : Map) (h : Heap X) (s : Heap Y) (v w : Value) → Stands R m h s → Same m v w → taken h v ≡ taken s w

  abbrev pub CopyCostsTheSame : Type 0
  CopyCostsTheSame = (m : Map) (h : Heap X) (s : Heap Y) (v w : Value) → Stands R m h s → Same m v w → copy_cost h v ≡ copy_cost s w

  abbrev pub CopyMoves : Type 0
  CopyMoves = GrowsWith R → (m : Map) (h : Heap X) (s : Heap Y) (v w : Value) → Stands R m h s → Same m v w
      → (n : Map) × Moved R m n h (copied h v).0 s (copied s w).0 × Same n (copied h v).1 (copied s w).1
