-- TABLES IN ORDER OF FIRST REACH (Scribunto, mw.loadData and mw.clone). A table leads to its metatable, and then to the
-- values of its entries in their order; a key leads nowhere, and a cleared entry has no value. The walk is breadth first.
use Rattle.std.specs.Prelude.{ℕ, zero, suc, ◌+◌, List, [], ◌∷◌, Option, Some, None, if◌then◌else◌, eqb, slice_get, length}
use Rattle.lua_heap.specs.LuaTableEntries.{Contents}
use Rattle.lua_heap.specs.Value.{Value, Table, is_nil}
use Rattle.lua_heap.specs.Table.{Entries}
use Rattle.lua_heap.specs.Heap.{Heap, table_at}

-- the place of a table in the order, or how many there are where it is not among them
abbrev pub place_of : List ℕ → ℕ → ℕ
place_of [] t = 0
place_of (x ∷ xs) t = if eqb t x then 0 else suc (place_of xs t)

-- the order with a table behind the others, where it is not among them
abbrev pub with_table : List ℕ → ℕ → List ℕ
with_table [] t = t ∷ []
with_table (x ∷ xs) t = if eqb t x then x ∷ xs else x ∷ with_table xs t

abbrev pub with_value : List ℕ → Value → List ℕ
with_value order (Table t) = with_table order t
with_value order v = order

abbrev pub with_entries : List ℕ → Entries → List ℕ
with_entries order [] = order
with_entries order (e ∷ es) = with_entries (with_value order e.1) es

-- the order with what a table leads to
abbrev pub with_links : List ℕ → Contents Value → List ℕ
with_links order t = with_entries (with_value order t.meta) t.entries

-- the rest of a walk where there is a next table, and the order as it is where there is none
abbrev pub go_on : (ℕ → List ℕ) → List ℕ → Option ℕ → List ℕ
go_on rest order None = order
go_on rest order (Some t) = rest t

-- The tables of the order are visited one after another, from a place on, and each adds what it leads to. At most n are.
abbrev pub visit : {X : Type 0} → ℕ → Heap X → ℕ → List ℕ → List ℕ
visit zero h at order = order
visit (suc n) h at order = go_on (λ t. visit n h (at + 1) (with_links order (table_at h t))) order (slice_get order at)

-- all tables that are reached from a table, which is the first of them. No table is visited twice, so as many visits as
-- the heap has tables are enough (`ReachedIsAll` in `Laws`).
abbrev pub reached : {X : Type 0} → Heap X → ℕ → List ℕ
reached h t = visit (length h.tables) h 0 (t ∷ [])

-- the entries of a table that are not cleared
abbrev pub live : Entries → Entries
live [] = []
live (e ∷ es) = if is_nil e.1 then live es else e ∷ live es
