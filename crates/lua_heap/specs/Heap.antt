-- THE HEAP: tables, cells, closures and markup objects, each kind numbered from 0 in the order in which they are made.
-- A cell holds the value of one variable that functions share (manual 2.6). What a function holds is a parameter X:
-- the meaning of Lua has a function's text with its environment there, the store a function's code with its cells.
use Rattle.std.specs.Prelude.{ℕ, Bool, true, false, List, [], ◌∷◌, ◌++◌, length, Option, None, slice_get, slice_set, slice_index_or, IsTrue}
use Rattle.std.specs.Option.{option_map}
use Rattle.lua_table.specs.Entries.{Contents}
use Rattle.lua_heap.specs.declared.library.Library.{Library}
use Rattle.lua_heap.specs.Value.{Value, Nil}
use Rattle.lua_heap.specs.Table.{empty_table, set}

-- A closure is a function of Lua, or an iterator that the library made: the function of the library that makes its
-- steps, and the cells in which its state is (string.gmatch, mw.ustring.gmatch, mw.ustring.gcodepoint, mw.text.gsplit).
pub data Closed (X : Type 0) : Type 0 where
  Function : (content : X) → Closed X
  Iterator : (step : Library) (cells : List ℕ) → Closed X

-- A style of a markup object: one property with its value, or a text of styles (mw.html, css and cssText).
pub data MarkupStyle : Type 0 where
  Item : (name value : List ℕ) → MarkupStyle
  StyleText : (bytes : List ℕ) → MarkupStyle

-- A child of a markup object: a text, or another object.
pub data MarkupChild : Type 0 where
  ChildText : (bytes : List ℕ) → MarkupChild
  ChildNode : (id : ℕ) → MarkupChild

-- A markup object (mw.html): its tag's name, which is empty where it has no tag; whether it closes itself; the object
-- whose `tag` made it; its attributes with their values; its styles; its children.
pub record MarkupNode : Type 0 where
  pub name : List ℕ
  pub closed : Bool
  pub parent : Option ℕ
  pub attrs : List (List ℕ × List ℕ)
  pub styles : List MarkupStyle
  pub children : List MarkupChild

pub record Heap (X : Type 0) : Type 0 where
  pub tables : List (Contents Value)
  pub cells : List Value
  pub closures : List (Closed X)
  pub markup : List MarkupNode

abbrev pub empty : {X : Type 0} → Heap X
empty = record { tables = []; cells = []; closures = []; markup = [] }

-- NAMES OF OBJECTS: the kind, and the number
pub data Ref : Type 0 where
  tab cel clo mar : ℕ → Ref

-- an object of any kind
pub data Obj (X : Type 0) : Type 0 where
  TableObj : Contents Value → Obj X
  CellObj : Value → Obj X
  ClosureObj : Closed X → Obj X
  MarkupObj : MarkupNode → Obj X

-- the object of that name, if there is one
abbrev pub look : {X : Type 0} → Heap X → Ref → Option (Obj X)
look h (tab n) = option_map TableObj (slice_get h.tables n)
look h (cel n) = option_map CellObj (slice_get h.cells n)
look h (clo n) = option_map ClosureObj (slice_get h.closures n)
look h (mar n) = option_map MarkupObj (slice_get h.markup n)

-- the heap with one more object
abbrev pub add : {X : Type 0} → Heap X → Obj X → Heap X
add h (TableObj t) = record h { tables = h.tables ++ t ∷ [] }
add h (CellObj v) = record h { cells = h.cells ++ v ∷ [] }
add h (ClosureObj c) = record h { closures = h.closures ++ c ∷ [] }
add h (MarkupObj n) = record h { markup = h.markup ++ n ∷ [] }

-- the name that the next object of its kind gets
abbrev pub fresh : {X : Type 0} → Heap X → Obj X → Ref
fresh h (TableObj t) = tab (length h.tables)
fresh h (CellObj v) = cel (length h.cells)
fresh h (ClosureObj c) = clo (length h.closures)
fresh h (MarkupObj n) = mar (length h.markup)

-- the heap with the named object replaced by one of its kind
abbrev pub put : {X : Type 0} → Heap X → Ref → Obj X → Heap X
put h (tab n) (TableObj t) = record h { tables = slice_set h.tables n t }
put h (cel n) (CellObj v) = record h { cells = slice_set h.cells n v }
put h (clo n) (ClosureObj c) = record h { closures = slice_set h.closures n c }
put h (mar n) (MarkupObj m) = record h { markup = slice_set h.markup n m }
put h _ _ = h

-- READERS. Each has an answer for every number: past the end a table is empty, a cell holds nil, and so on.
abbrev pub no_markup : MarkupNode
no_markup = record { name = []; closed = false; parent = None; attrs = []; styles = []; children = [] }

abbrev pub table_at : {X : Type 0} → Heap X → ℕ → Contents Value
table_at h t = slice_index_or h.tables t empty_table

abbrev pub cell_at : {X : Type 0} → Heap X → ℕ → Value
cell_at h c = slice_index_or h.cells c Nil

abbrev pub closure_at : {X : Type 0} → Heap X → ℕ → Option (Closed X)
closure_at h c = slice_get h.closures c

abbrev pub markup_at : {X : Type 0} → Heap X → ℕ → MarkupNode
markup_at h n = slice_index_or h.markup n no_markup

-- CHANGES of one object
abbrev pub with_entry : Contents Value → Value → Value → Contents Value
with_entry t key value = record t { entries = set t.entries key value }

-- `rawset` at a table that can be written, for a key that is not nil
abbrev pub set_in : {X : Type 0} → Heap X → ℕ → Value → Value → Heap X
set_in h t key value = put h (tab t) (TableObj (with_entry (table_at h t) key value))

-- `setmetatable` at a table that can be written; nil for no metatable
abbrev pub set_meta_in : {X : Type 0} → Heap X → ℕ → Value → Heap X
set_meta_in h t meta = put h (tab t) (TableObj (record (table_at h t) { meta = meta }))

-- the table becomes read-only
abbrev pub freeze_in : {X : Type 0} → Heap X → ℕ → Heap X
freeze_in h t = put h (tab t) (TableObj (record (table_at h t) { frozen = true }))

abbrev pub set_cell_in : {X : Type 0} → Heap X → ℕ → Value → Heap X
set_cell_in h c value = put h (cel c) (CellObj value)

abbrev pub set_markup_in : {X : Type 0} → Heap X → ℕ → MarkupNode → Heap X
set_markup_in h n node = put h (mar n) (MarkupObj node)

-- NEW OBJECTS: the heap with the object, and its number
abbrev pub new_table : {X : Type 0} → Heap X → Heap X × ℕ
new_table h = (add h (TableObj empty_table), length h.tables)

abbrev pub new_cell : {X : Type 0} → Heap X → Value → Heap X × ℕ
new_cell h value = (add h (CellObj value), length h.cells)

abbrev pub new_closure : {X : Type 0} → Heap X → Closed X → Heap X × ℕ
new_closure h c = (add h (ClosureObj c), length h.closures)

abbrev pub new_markup : {X : Type 0} → Heap X → MarkupNode → Heap X × ℕ
new_markup h node = (add h (MarkupObj node), length h.markup)

-- READ-ONLY TABLES
abbrev pub is_shared : {X : Type 0} → Obj X → Bool
is_shared (TableObj t) = t.frozen
is_shared (CellObj v) = false
is_shared (ClosureObj c) = false
is_shared (MarkupObj n) = false

abbrev pub IsShared : {X : Type 0} → Obj X → Type 0
IsShared o = IsTrue (is_shared o)
