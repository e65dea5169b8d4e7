-- CLOSED HEAPS: whatever is named is there. They stay so by changes and additions that name only what is there.
use Rattle.std.specs.Prelude.{◌≡◌, ℕ, List, Some, IsTrue}
use Rattle.lua_heap.specs.Value.{Value}
use Rattle.lua_heap.specs.Heap.{Heap, Ref, tab, cel, Obj, look, add, put, empty, set_in, set_meta_in, freeze_in, set_cell_in}
use Rattle.lua_heap.specs.Related.{Fits}
use Rattle.lua_heap.specs.Reach.{AllIn, value_names, obj_names, is_there, IsClosedHeap}

module _ (X : Type 0) where
  abbrev pub EmptyIsClosed : Type 0
  EmptyIsClosed = (names : X → List Ref) → IsClosedHeap names empty

  -- the new object may name itself
  abbrev pub AddKeepsClosed : Type 0
  AddKeepsClosed = (names : X → List Ref) (h : Heap X) (o : Obj X) → IsClosedHeap names h → AllIn (is_there (add h o)) (obj_names names o) → IsClosedHeap names (add h o)

  abbrev pub PutKeepsClosed : Type 0
  PutKeepsClosed = (names : X → List Ref) (h : Heap X) (r : Ref) (x o : Obj X) → IsClosedHeap names h → look h r ≡ Some x → Fits r o → AllIn (is_there h) (obj_names names o)
      → IsClosedHeap names (put h r o)

  abbrev pub SetKeepsClosed : Type 0
  SetKeepsClosed = (names : X → List Ref) (h : Heap X) (t : ℕ) (key value : Value) → IsClosedHeap names h → IsTrue (is_there h (tab t))
      → AllIn (is_there h) (value_names key) → AllIn (is_there h) (value_names value) → IsClosedHeap names (set_in h t key value)

  abbrev pub SetMetaKeepsClosed : Type 0
  SetMetaKeepsClosed = (names : X → List Ref) (h : Heap X) (t : ℕ) (meta : Value) → IsClosedHeap names h → IsTrue (is_there h (tab t))
      → AllIn (is_there h) (value_names meta) → IsClosedHeap names (set_meta_in h t meta)

  abbrev pub FreezeKeepsClosed : Type 0
  FreezeKeepsClosed = (names : X → List Ref) (h : Heap X) (t : ℕ) → IsClosedHeap names h → IsTrue (is_there h (tab t)) → IsClosedHeap names (freeze_in h t)

  abbrev pub SetCellKeepsClosed : Type 0
  SetCellKeepsClosed = (names : X → List Ref) (h : Heap X) (c : ℕ) (value : Value) → IsClosedHeap names h → IsTrue (is_there h (cel c))
      → AllIn (is_there h) (value_names value) → IsClosedHeap names (set_cell_in h c value)
