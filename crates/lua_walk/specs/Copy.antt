-- THE COPY OF A VALUE (Scribunto, mw.clone): a new table for each table that is reached, as a value or as a metatable, with
-- cycles kept. A copy can be written. Keys, functions and objects of mw.html stay as they are, and cleared entries are left out.
use Rattle.std.specs.Prelude.{ℕ, ◌+◌, ◌*◌, false, List, [], ◌∷◌, ◌++◌, length, map}
use Rattle.lua_heap.specs.LuaTableEntries.{Contents}
use Rattle.lua_heap.specs.Value.{Value, Table}
use Rattle.lua_heap.specs.Heap.{Heap, table_at}
use Rattle.lua_walk.specs.Order.{place_of, reached, live}

-- the copy of a value, where the new tables stand in the order behind the first k
abbrev pub copy_of : ℕ → List ℕ → Value → Value
copy_of k order (Table t) = Table (k + place_of order t)
copy_of k order v = v

abbrev pub copied_table : ℕ → List ℕ → Contents Value → Contents Value
copied_table k order t = record { entries = map (λ e. (e.0, copy_of k order e.1)) (live t.entries); meta = copy_of k order t.meta; frozen = false }

abbrev pub copies : {X : Type 0} → Heap X → List ℕ → List (Contents Value)
copies h order = map (λ n. copied_table (length h.tables) order (table_at h n)) order

-- the heap with the copies, and the copy of the value
abbrev pub copied : {X : Type 0} → Heap X → Value → Heap X × Value
copied h (Table t) = (record h { tables = h.tables ++ copies h (reached h t) }, Table (length h.tables))
copied h v = (h, v)

-- ITS COST in steps for each new table, and for each of its entries
abbrev pub copied_table_charge : ℕ
copied_table_charge = 8

abbrev pub copied_entry_charge : ℕ
copied_entry_charge = 4

abbrev pub tables_cost : {X : Type 0} → Heap X → List ℕ → ℕ
tables_cost h [] = 0
tables_cost h (t ∷ ts) = copied_table_charge + copied_entry_charge * length (live (table_at h t).entries) + tables_cost h ts

abbrev pub copy_cost : {X : Type 0} → Heap X → Value → ℕ
copy_cost h (Table t) = tables_cost h (reached h t)
copy_cost h v = 0
