-- INDEXING, AND ASSIGNMENT TO AN INDEX (manual 2.3 and 2.8, "index" and "newindex").
-- A link of a chain of handlers is the last thing that its move does, so that a chain of any length is no nesting.
use Rattle.std.specs.Prelude.{ℕ, ◌||◌, List, [], ◌∷◌, Option, codes}
use Rattle.lua_meaning.specs.LuaHeapValue.{Value, Nil, Text, Table, Markup, is_nil}
use Rattle.lua_meaning.specs.LuaHeapTable.{get, has}
use Rattle.lua_meaning.specs.LuaHeapHeap.{table_at, set_in}
use Rattle.lua_meaning.specs.Charges.{entry_charge}
use Rattle.lua_meaning.specs.Values.{is_function}
use Rattle.lua_meaning.specs.Messages.{cannot_index, nil_key, read_only}
use Rattle.lua_meaning.specs.Metatables.{handler}
use Rattle.lua_meaning.specs.Html.{field_of_object}
use Rattle.lua_slots.specs.Slots.{Slots, with_heap}
use Rattle.lua_slots.specs.Points.{IndexLinkS, SetLinkS, SFrame, Starts, Move, Costs, Now}
use Rattle.lua_slots.specs.Errors.{choose, gives, fails}
use Rattle.lua_slots.specs.Calls.{call}

-- READING. The first value counts, which is the frame's to take.
abbrev pub index_by : Value → Value → Value → Option ℕ → List SFrame → Slots → Move
index_by h object key line fs s = choose (is_nil h) (gives (Nil ∷ []) fs s) (Now (Starts (IndexLinkS object h key line) fs) s)

abbrev pub index_table : ℕ → Value → Option ℕ → List SFrame → Slots → Move
index_table t key line fs s =
    choose (is_nil (get (table_at s.heap t).entries key))
    (index_by (handler s.heap (Table t) (codes "__index")) (Table t) key line fs s)
    (gives (get (table_at s.heap t).entries key ∷ []) fs s)

abbrev pub index : Value → Value → Option ℕ → List SFrame → Slots → Move
index (Table t) key line fs s = index_table t key line fs s
index (Text text) key line fs s = index_table s.strings key line fs s
index (Markup m) key line fs s = gives (field_of_object key ∷ []) fs s
index v key line fs s = fails line (cannot_index v) fs s

abbrev pub index_link : Value → Value → Value → Option ℕ → List SFrame → Slots → Move
index_link object h key line fs s = choose (is_function h) (call h (object ∷ key ∷ []) line fs s) (index h key line fs s)

-- WRITING without handlers: a table that is read-only refuses, and so does the key nil; a new entry costs 4 steps
abbrev pub with_entry : ℕ → Value → Value → Slots → Slots
with_entry t key value s = with_heap (set_in s.heap t key value) s

abbrev pub put_entry : ℕ → Value → Value → List SFrame → Slots → Move
put_entry t key value fs s =
    choose (has (table_at s.heap t).entries key || is_nil value)
    (gives [] fs (with_entry t key value s))
    (Costs entry_charge (gives [] fs (with_entry t key value s)))

abbrev pub set_entry : ℕ → Value → Value → Option ℕ → List SFrame → Slots → Move
set_entry t key value line fs s =
    choose (table_at s.heap t).frozen
    (fails line read_only fs s)
    (choose (is_nil key) (fails line nil_key fs s) (put_entry t key value fs s))

-- WRITING. What a handler gives is the frame's to drop.
abbrev pub set_by : Value → ℕ → Value → Value → Option ℕ → List SFrame → Slots → Move
set_by h t key value line fs s = choose (is_nil h) (set_entry t key value line fs s) (Now (Starts (SetLinkS (Table t) h key value line) fs) s)

abbrev pub set_table : ℕ → Value → Value → Option ℕ → List SFrame → Slots → Move
set_table t key value line fs s =
    choose (is_nil (get (table_at s.heap t).entries key))
    (set_by (handler s.heap (Table t) (codes "__newindex")) t key value line fs s)
    (set_entry t key value line fs s)

abbrev pub set_index : Value → Value → Value → Option ℕ → List SFrame → Slots → Move
set_index (Table t) key value line fs s = set_table t key value line fs s
set_index v key value line fs s = fails line (cannot_index v) fs s

abbrev pub set_link : Value → Value → Value → Value → Option ℕ → List SFrame → Slots → Move
set_link object h key value line fs s = choose (is_function h) (call h (object ∷ key ∷ value ∷ []) line fs s) (set_index h key value line fs s)
