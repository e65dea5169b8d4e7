-- WHAT COPYING A VALUE MAKES OF A STORE (Scribunto, mw.clone): the copy is `lua_walk`'s (Copy), and so is its cost.
use Rattle.std.specs.Prelude.{◌≡◌, ℕ, ◌+◌, ◌-◌, ◌*◌, List, ◌++◌, length, map, take, replicate, if◌then◌else◌}
use Rattle.std.specs.List.{AllByRecursion, Contains}
use Rattle.lua_walk.specs.LuaTableEntries.{Contents}
use Rattle.lua_walk.specs.LuaHeapValue as heap
use Rattle.lua_walk.specs.LuaHeapValue.{is_nil}
use Rattle.lua_store.specs.LuaHeapTable.{Entries, empty_table}
use Rattle.lua_walk.specs.LuaHeapHeap.{Heap, table_at}
use Rattle.lua_walk.specs.Order.{live}
use Rattle.lua_walk.specs.Laws.{links}
use Rattle.lua_walk.specs.Copy.{copy_of, copies, copied, copied_table_charge, copied_entry_charge}
use Rattle.lua_store.specs.declared.value.Value.{Value}
use Rattle.lua_store.specs.Seen.{StoreView, seen}

-- w is the copy of v, and nothing but the copy's tables was made
pub record IsCopy (s : StoreView) (v : Value) (t : StoreView) (w : Value) : Type 0 where
  pub store : t ≡ record s { heap = (copied s.heap (seen s.texts v)).0 }
  pub value : seen t.texts w ≡ (copied s.heap (seen s.texts v)).1

-- THE STEPS, one change of a heap after another
-- the entries of a copy: those that are not cleared, with the copies of their values
abbrev pub copied_entries : ℕ → List ℕ → Entries → Entries
copied_entries k order es = map (λ e. (e.0, copy_of k order e.1)) (live es)

-- all new tables are there; so many of them are copies, and the others are empty
abbrev pub part_copied : {X : Type 0} → Heap X → List ℕ → ℕ → Heap X
part_copied h order at = record h { tables = h.tables ++ (take at (copies h order) ++ replicate (length order - at) empty_table) }

-- whatever a table leads to is in the order
abbrev pub IsClosedAt : {X : Type 0} → Heap X → List ℕ → ℕ → Type 0
IsClosedAt h order n = AllByRecursion (Contains order) (links (table_at h n))

-- WHAT IS PAID for an entry, and for a table
abbrev pub entry_cost : heap.Value → ℕ
entry_cost v = if is_nil v then 0 else copied_entry_charge

abbrev pub table_cost : Contents heap.Value → ℕ
table_cost t = copied_table_charge + copied_entry_charge * length (live t.entries)
