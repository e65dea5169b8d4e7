-- SMALL HEAPS, with what is true of them worked out by hand. A function holds the list of its cells.
use Rattle.std.specs.Prelude.{◌≡◌, ℕ, zero, suc, pos, true, false, List, [], ◌∷◌, map, Option, Some, None}
use Rattle.lua_heap.specs.declared.library.Library.TheVariants.{BasicNext, BasicPcall, GsplitStep}
use Rattle.lua_heap.specs.Value.{Value, Nil, Truth, Number, Text, Table, Closure, Builtin, same}
use Rattle.lua_heap.specs.Table.{Entries, get, has, set, next, border}
use Rattle.lua_heap.specs.Heap.{Function, Iterator, ChildText, ChildNode, MarkupNode, Heap, empty, Ref, tab, cel, mar, TableObj, CellObj, look, put, table_at, cell_at, closure_at, markup_at, set_in, set_meta_in, freeze_in, set_cell_in, set_markup_in, new_table, new_cell, new_closure, new_markup}
use Rattle.lua_heap.specs.Related.{Map, Each, SameCell, Stands}
use Rattle.lua_heap.specs.Reach.{obj_names, IsReached, Own, LooksAtNames, NamesStand, StandsForItself}
use Rattle.lua_heap.specs.Graph.{Graph, join, joined_root}

abbrev pub Cells : Type 0
Cells = List ℕ

abbrev pub names : Cells → List Ref
names cells = map cel cells

abbrev pub one : Value
one = Number (pos 1)

abbrev pub two : Value
two = Number (pos 2)

abbrev pub three : Value
three = Number (pos 3)

abbrev pub a : Value
a = Text (97 ∷ [])

abbrev pub b : Value
b = Text (98 ∷ [])

-- VALUES: a text is its bytes, and a number is no text
abbrev pub ValuesDiffer : Type 0
ValuesDiffer = (same (Text (97 ∷ 98 ∷ [])) (Text (97 ∷ 98 ∷ [])) ≡ true)
    × (same a b ≡ false)
    × (same one (Text (49 ∷ [])) ≡ false)
    × (same (Table 0) (Closure 0) ≡ false)
    × (same (Builtin BasicNext) (Builtin BasicNext) ≡ true)
    × (same (Builtin BasicNext) (Builtin BasicPcall) ≡ false)
    × (same Nil (Truth false) ≡ false)

-- TABLES: a, b and c are set in this order; then b is cleared, and set again
abbrev pub abc : Entries
abc = set (set (set [] a one) b two) (Text (99 ∷ [])) three

abbrev pub KeysKeepTheirPlace : Type 0
KeysKeepTheirPlace = (set (set abc b Nil) b three ≡ (a, one) ∷ (b, three) ∷ (Text (99 ∷ []), three) ∷ [])
    × (set abc (Text (100 ∷ [])) Nil ≡ abc)
    × (get (set abc b Nil) b ≡ Nil)
    × (has (set abc b Nil) b ≡ true)

abbrev pub NextPassesCleared : Type 0
NextPassesCleared = (next (set abc b Nil) a ≡ Some (record { key = Text (99 ∷ []); value = three; passed = 1 }))
    × (next (set abc (Text (99 ∷ [])) Nil) b ≡ Some (record { key = Nil; value = Nil; passed = 1 }))
    × (next abc Nil ≡ Some (record { key = a; value = one; passed = 0 }))
    × (next abc (Text (100 ∷ [])) ≡ None)

-- 2 is set before 1; then 1 is cleared, or 4 is set
abbrev pub BordersAreLeast : Type 0
BordersAreLeast = (border (set (set [] two a) one a) ≡ 2)
    × (border (set [] two a) ≡ 0)
    × (border (set (set (set [] two a) one a) one Nil) ≡ 0)
    × (border (set (set (set [] two a) one a) (Number (pos 4)) a) ≡ 2)

-- A TABLE THAT HOLDS ITSELF as key, value and metatable
abbrev pub looped : Heap Cells
looped = set_meta_in (set_in (new_table empty).0 0 (Table 0) (Table 0)) 0 (Table 0)

abbrev pub ItselfInItself : Type 0
ItselfInItself = (table_at looped 0 ≡ record { entries = (Table 0, Table 0) ∷ []; meta = Table 0; frozen = false })
    × (obj_names names (TableObj (table_at looped 0)) ≡ tab 0 ∷ tab 0 ∷ tab 0 ∷ [])
    × (get (table_at looped 0).entries (Table 0) ≡ Table 0)
    × (look looped (tab 1) ≡ None)

-- A CELL THAT TWO FUNCTIONS SHARE, and an iterator whose state it is too
abbrev pub shared_cell : Heap Cells
shared_cell = (new_closure (new_closure (new_closure (new_cell empty one).0 (Function (0 ∷ []))).0 (Function (0 ∷ []))).0 (Iterator GsplitStep (0 ∷ []))).0

abbrev pub CellIsShared : Type 0
CellIsShared = (closure_at shared_cell 0 ≡ closure_at shared_cell 1)
    × (cell_at (set_cell_in shared_cell 0 two) 0 ≡ two)
    × (closure_at (set_cell_in shared_cell 0 two) 2 ≡ Some (Iterator GsplitStep (0 ∷ [])))
    × ((new_closure shared_cell (Function [])).1 ≡ 3)
    × (cell_at shared_cell 1 ≡ Nil)

-- REACH THROUGH A READ-ONLY TABLE: table 0 holds table 1, which is read-only and holds table 2
abbrev pub three_tables : Heap Cells
three_tables = (new_table (new_table (new_table empty).0).0).0

abbrev pub through : Heap Cells
through = freeze_in (set_in (set_in three_tables 0 one (Table 1)) 1 one (Table 2)) 1

-- table 2 is reached from table 0, but not owned; table 0 is
abbrev pub ReachedButNotOwned : Type 0
ReachedButNotOwned = IsReached names through (tab 0 ∷ []) (tab 2) × Own names through (tab 0 ∷ []) (tab 0) × (Own names through (tab 0 ∷ []) (tab 2) → ⊥) × (Own names through (tab 0 ∷ []) (tab 1) → ⊥)

-- MARKUP: a child that names its parent
abbrev pub tag : List ℕ → Option ℕ → MarkupNode
tag name parent = record { name = name; closed = false; parent = parent; attrs = []; styles = []; children = [] }

abbrev pub family : Heap Cells
family = let h : Heap Cells = (new_markup (new_markup empty (tag (112 ∷ []) None)).0 (tag (98 ∷ []) (Some 0))).0 in
    set_markup_in h 0 (record (markup_at h 0) { children = ChildText (97 ∷ []) ∷ ChildNode 1 ∷ [] })

abbrev pub MarkupIsNamed : Type 0
MarkupIsNamed = (look family (mar 1) ≡ look (new_markup (new_markup {X = Cells} empty (tag (112 ∷ []) None)).0 (tag (98 ∷ []) (Some 0))).0 (mar 1))
    × ((markup_at family 0).name ≡ 112 ∷ [])
    × ((markup_at family 0).children ≡ ChildText (97 ∷ []) ∷ ChildNode 1 ∷ [])
    × (put family (mar 0) (CellObj Nil) ≡ family)

-- A GRAPH that holds itself, put behind the three tables
abbrev pub ring : Graph
ring = ((a, Table 1) ∷ []) ∷ ((one, Table 0) ∷ (two, b) ∷ []) ∷ []

abbrev pub RingIsShifted : Type 0
RingIsShifted = (table_at (join true ring through) 3 ≡ record { entries = (a, Table 4) ∷ []; meta = Nil; frozen = true })
    × (table_at (join false ring through) 4 ≡ record { entries = (one, Table 3) ∷ (two, b) ∷ []; meta = Nil; frozen = false })
    × (joined_root through ≡ Table 3)
    × (table_at (join true ring through) 0 ≡ table_at through 0)

-- TWO NUMBERINGS of one pair of tables, where the first holds the second
abbrev pub forwards : Heap Cells
forwards = set_in (new_table (new_table empty).0).0 0 a (Table 1)

abbrev pub backwards : Heap Cells
backwards = set_in (new_table (new_table empty).0).0 1 a (Table 0)

abbrev pub crossed : Ref → Option Ref
crossed (tab zero) = Some (tab 1)
crossed (tab (suc zero)) = Some (tab 0)
crossed _ = None

abbrev pub SameCells : Map → Cells → Cells → Type 0
SameCells m xs ys = Each (SameCell m) xs ys

abbrev pub StandsCrossed : Type 0
StandsCrossed = Stands SameCells (record { to = crossed; from = crossed }) forwards backwards

-- WHAT SOME LAWS ASK of contents is true of lists of cells
abbrev pub CellsAreContents : Type 0
CellsAreContents = LooksAtNames SameCells names × NamesStand SameCells names × StandsForItself SameCells names
