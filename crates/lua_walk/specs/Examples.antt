-- SMALL HEAPS, walked by hand. Functions hold nothing here. Each heap has the text of Lua that makes it.
use Rattle.std.specs.Prelude.{◌≡◌, ℕ, pos, true, false, List, [], ◌∷◌, Ok, Err, codes}
use Rattle.lua_heap.specs.LuaTableEntries.{Contents}
use Rattle.lua_heap.specs.declared.library.Library.TheVariants.{BasicNext}
use Rattle.lua_heap.specs.Value.{Value, Nil, Number, Text, Table, Builtin, Markup}
use Rattle.lua_heap.specs.Table.{Entries, set}
use Rattle.lua_heap.specs.Heap.{Heap, empty, table_at}
use Rattle.lua_walk.specs.Order.{reached}
use Rattle.lua_walk.specs.Data.{NotATable, HasFunction, HasMetatable, BadKey, taken, texts_of}
use Rattle.lua_walk.specs.Copy.{copied, copy_cost}

abbrev pub text : List ℕ → Value
text bytes = Text bytes

abbrev pub number : ℕ → Value
number n = Number (pos n)

-- a table that can be written, and one with a metatable
abbrev pub plain : Entries → Contents Value
plain es = record { entries = es; meta = Nil; frozen = false }

abbrev pub with_meta : Value → Entries → Contents Value
with_meta meta es = record { entries = es; meta = meta; frozen = false }

abbrev pub heap : List (Contents Value) → Heap ⊥
heap ts = record empty { tables = ts }

-- DATA
-- t = {v=5}; t.me = t
abbrev pub itself : Heap ⊥
itself = heap (plain ((text (codes "v"), number 5) ∷ (text (codes "me"), Table 0) ∷ []) ∷ [])

-- u = {}; t = {u, {u}}, where u was made first
abbrev pub twice : Heap ⊥
twice = heap (plain [] ∷ plain ((number 1, Table 0) ∷ (number 2, Table 2) ∷ []) ∷ plain ((number 1, Table 0) ∷ []) ∷ [])

-- t = {a='s', s='a', z=1}; t.z = nil
abbrev pub cleared : Heap ⊥
cleared = heap (plain (set ((text (codes "a"), text (codes "s")) ∷ (text (codes "s"), text (codes "a")) ∷ (text (codes "z"), number 1) ∷ []) (text (codes "z")) Nil) ∷ [])

abbrev pub DataIsTaken : Type 0
DataIsTaken = (taken itself (Table 0) ≡ Ok (((text (codes "v"), number 5) ∷ (text (codes "me"), Table 0) ∷ []) ∷ []))
    × (reached twice 1 ≡ 1 ∷ 0 ∷ 2 ∷ [])
    × (taken twice (Table 1) ≡ Ok (((number 1, Table 1) ∷ (number 2, Table 2) ∷ []) ∷ [] ∷ ((number 1, Table 1) ∷ []) ∷ []))
    × (taken cleared (Table 0) ≡ Ok (((text (codes "a"), text (codes "s")) ∷ (text (codes "s"), text (codes "a")) ∷ []) ∷ []))
    × (texts_of (((text (codes "a"), text (codes "s")) ∷ (text (codes "s"), text (codes "a")) ∷ []) ∷ []) ≡ codes "a" ∷ codes "s" ∷ [])

-- FAULTS, the first that is met: f is a function of the library
abbrev pub f : Value
f = Builtin BasicNext

abbrev pub FirstFaultIsMet : Type 0
FirstFaultIsMet = (taken itself (text (codes "v")) ≡ Err NotATable)
    -- {[f]=1, x=f}, {x=f, [f]=1} and {[f]=f}
    × (taken (heap (plain ((f, number 1) ∷ (text (codes "x"), f) ∷ []) ∷ [])) (Table 0) ≡ Err BadKey)
    × (taken (heap (plain ((text (codes "x"), f) ∷ (f, number 1) ∷ []) ∷ [])) (Table 0) ≡ Err HasFunction)
    × (taken (heap (plain ((f, f) ∷ []) ∷ [])) (Table 0) ≡ Err BadKey)
    -- {[{}]=1}, {x=mw.html.create()}, and {f} after t[1] = nil
    × (taken (heap (plain ((Table 1, number 1) ∷ []) ∷ plain [] ∷ [])) (Table 0) ≡ Err BadKey)
    × (taken (heap (plain ((text (codes "x"), Markup 0) ∷ []) ∷ [])) (Table 0) ≡ Err HasMetatable)
    × (taken (heap (plain ((number 1, Nil) ∷ []) ∷ [])) (Table 0) ≡ Ok ([] ∷ []))
    -- setmetatable({x=f}, {}), where the metatable comes before the entries
    × (taken (heap (with_meta (Table 1) ((text (codes "x"), f) ∷ []) ∷ plain [] ∷ [])) (Table 0) ≡ Err HasMetatable)
    -- {x=setmetatable({}, {})}, and {y=setmetatable({}, {}), x=f}, where the root comes before the table in it
    × (taken (heap (plain ((text (codes "x"), Table 1) ∷ []) ∷ with_meta (Table 2) [] ∷ plain [] ∷ [])) (Table 0) ≡ Err HasMetatable)
    × (taken (heap (plain ((text (codes "y"), Table 1) ∷ (text (codes "x"), f) ∷ []) ∷ with_meta (Table 2) [] ∷ plain [] ∷ [])) (Table 0) ≡ Err HasFunction)

-- COPIES
-- k = {}; t = setmetatable({[k]=f, t=t, u={1}}, m); t.v = nil; m = {__index=t}; u is read-only
abbrev pub linked : Heap ⊥
linked = heap (
    plain []
    ∷ with_meta (Table 3) ((Table 0, f) ∷ (text (codes "t"), Table 1) ∷ (text (codes "u"), Table 2) ∷ (text (codes "v"), Nil) ∷ [])
    ∷ record { entries = (number 1, number 1) ∷ []; meta = Nil; frozen = true }
    ∷ plain ((text (codes "__index"), Table 1) ∷ []) ∷ [])

abbrev pub CopyIsMade : Type 0
CopyIsMade = (reached linked 1 ≡ 1 ∷ 3 ∷ 2 ∷ [])
    × ((copied linked (Table 1)).1 ≡ Table 4)
    × (table_at (copied linked (Table 1)).0 4 ≡ with_meta (Table 5) ((Table 0, f) ∷ (text (codes "t"), Table 4) ∷ (text (codes "u"), Table 6) ∷ []))
    × (table_at (copied linked (Table 1)).0 5 ≡ plain ((text (codes "__index"), Table 4) ∷ []))
    × (table_at (copied linked (Table 1)).0 6 ≡ plain ((number 1, number 1) ∷ []))
    × (table_at (copied linked (Table 1)).0 1 ≡ table_at linked 1)
    × (copied linked f ≡ (linked, f))

-- 8 for each table, 4 for each entry that is not cleared: 8 + 12, 8 + 4 and 8 + 4; a table that holds itself costs 12
abbrev pub CopyIsPaid : Type 0
CopyIsPaid = (copy_cost linked (Table 1) ≡ 44) × (copy_cost (heap (plain ((text (codes "t"), Table 0) ∷ []) ∷ [])) (Table 0) ≡ 12) × (copy_cost linked f ≡ 0)
