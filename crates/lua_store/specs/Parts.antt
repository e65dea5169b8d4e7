-- WHAT A STORE KEEPS: texts, and objects whose values name a text by its place among the texts.
use Rattle.std.specs.Prelude.{◌≡◌, ℕ, ◌<◌, ◌≤◌, ◌-◌, false, List, [], ◌∷◌, ◌++◌, map, length, replicate, if◌then◌else◌, Option, Some, None, slice_index_or}
use Rattle.std.specs.List.{list_any, AllByRecursion, IsDistinct}
use Rattle.std.specs.Str.{bytes_eq}
use Rattle.lua_table.specs.Entries.{Contents, set_at, HasKeys}
use Rattle.lua_heap.specs.Heap.{empty, closure_at}
use Rattle.lua_store.specs.declared.ids.TextId.{TextId}
use Rattle.lua_store.specs.declared.ids.TableId.{TableId}
use Rattle.lua_store.specs.declared.ids.CellId.{CellId}
use Rattle.lua_store.specs.declared.ids.ClosureId.{ClosureId}
use Rattle.lua_store.specs.declared.ids.MarkupId.{MarkupId}
use Rattle.lua_store.specs.declared.value.Value.{Value}
use Rattle.lua_store.specs.declared.value.Value.TheVariants.{Nil, Bool as Truth, Number, Text, Table, Closure as ClosureValue, Builtin, Markup}
use Rattle.lua_store.specs.contracts.value.ValuePartialEq.TheImpl.{ghosts}
use Rattle.lua_store.specs.declared.closure.Closure.{Closure}
use Rattle.lua_store.specs.declared.closure.ClosureKind.{ClosureKind}
use Rattle.lua_store.specs.declared.closure.ClosureKind.TheVariants.{Function, Iterator}
use Rattle.lua_store.specs.declared.markup.TextPair.{TextPair}
use Rattle.lua_store.specs.declared.markup.MarkupStyle.{MarkupStyle}
use Rattle.lua_store.specs.declared.markup.MarkupStyle.TheVariants.{Item, Text as StyleText}
use Rattle.lua_store.specs.declared.markup.MarkupChild.{MarkupChild}
use Rattle.lua_store.specs.declared.markup.MarkupChild.TheVariants.{Text as ChildText, Node as ChildNode}
use Rattle.lua_store.specs.declared.markup.MarkupNode.{MarkupNode}
use Rattle.lua_store.specs.Envs.{envs_of}
use Rattle.lua_store.specs.Seen.{StoreView, text_at, seen_table, seen, seen_closure, seen_node}

pub record Parts : Type 0 where
  pub texts : List (List ℕ)
  pub tables : List (Contents Value)
  pub cells : List Value
  pub closures : List Closure
  pub markup : List MarkupNode
  pub env : ℕ

abbrev pub view_of : Parts → StoreView
view_of p = record {
  texts = p.texts;
  heap = record {
    tables = map (seen_table p.texts) p.tables;
    cells = map (seen p.texts) p.cells;
    closures = map (seen_closure p.texts) p.closures;
    markup = map (seen_node p.texts) p.markup;
  };
  envs = envs_of p.closures;
  env = p.env;
}

-- ids of a store
abbrev pub IsTextOf : StoreView → TextId → Type 0
IsTextOf s id = id.at < length s.texts

abbrev pub IsTableOf : StoreView → TableId → Type 0
IsTableOf s id = id.at < length s.heap.tables

abbrev pub IsCellOf : StoreView → CellId → Type 0
IsCellOf s id = id.at < length s.heap.cells

abbrev pub IsClosureOf : StoreView → ClosureId → Type 0
IsClosureOf s id = id.at < length s.heap.closures

abbrev pub IsMarkupOf : StoreView → MarkupId → Type 0
IsMarkupOf s id = id.at < length s.heap.markup

-- values, and what else holds ids, that name only what the store has
abbrev pub IsOf : StoreView → Value → Type 0
IsOf s Nil = Unit {0}
IsOf s (Truth b) = Unit {0}
IsOf s (Number n) = Unit {0}
IsOf s (Text id) = IsTextOf s id
IsOf s (Table id) = IsTableOf s id
IsOf s (ClosureValue id) = IsClosureOf s id
IsOf s (Builtin which) = Unit {0}
IsOf s (Markup id) = IsMarkupOf s id

abbrev pub IsEntryOf : StoreView → Value × Value → Type 0
IsEntryOf s e = IsOf s e.0 × IsOf s e.1

-- a table likewise, in which each key is there once and none is nil
pub record IsContentsOf (s : StoreView) (t : Contents Value) : Type 0 where
  pub entries : AllByRecursion (IsEntryOf s) t.entries
  pub meta : IsOf s t.meta
  pub keys : HasKeys ghosts.eq Nil t.entries

abbrev pub AreCellsOf : StoreView → List CellId → Type 0
AreCellsOf s cells = AllByRecursion (IsCellOf s) cells

abbrev pub IsKindOf : StoreView → ClosureKind → Type 0
IsKindOf s (Function p) = IsTextOf s p.title
IsKindOf s (Iterator step) = Unit {0}

pub record IsContentOf (s : StoreView) (c : Closure) : Type 0 where
  pub kind : IsKindOf s c.kind
  pub cells : AreCellsOf s c.cells

abbrev pub IsPairOf : StoreView → TextPair → Type 0
IsPairOf s p = IsTextOf s p.name × IsTextOf s p.value

abbrev pub IsStyleOf : StoreView → MarkupStyle → Type 0
IsStyleOf s (Item p) = IsPairOf s p
IsStyleOf s (StyleText id) = IsTextOf s id

abbrev pub IsChildOf : StoreView → MarkupChild → Type 0
IsChildOf s (ChildText id) = IsTextOf s id
IsChildOf s (ChildNode id) = IsMarkupOf s id

abbrev pub IsParentOf : StoreView → Option MarkupId → Type 0
IsParentOf s None = Unit {0}
IsParentOf s (Some id) = IsMarkupOf s id

pub record IsNodeOf (s : StoreView) (n : MarkupNode) : Type 0 where
  pub name : IsTextOf s n.name
  pub parent : IsParentOf s n.parent
  pub attrs : AllByRecursion (IsPairOf s) n.attrs
  pub styles : AllByRecursion (IsStyleOf s) n.styles
  pub children : AllByRecursion (IsChildOf s) n.children

-- whatever is kept names only what the store has
pub record AreOf (s : StoreView) (p : Parts) : Type 0 where
  pub tables : AllByRecursion (IsContentsOf s) p.tables
  pub cells : AllByRecursion (IsOf s) p.cells
  pub closures : AllByRecursion (IsContentOf s) p.closures
  pub markup : AllByRecursion (IsNodeOf s) p.markup

-- no text is kept twice, and whatever is kept names only what is there
pub record IsSound (p : Parts) : Type 0 where
  pub distinct : IsDistinct bytes_eq p.texts
  pub own : AreOf (view_of p) p

-- a table without entries
abbrev pub no_contents : Contents Value
no_contents = record { entries = []; meta = Nil; frozen = false }

abbrev pub table_in : List (Contents Value) → ℕ → Contents Value
table_in tables id = slice_index_or tables id no_contents

-- a table after a set
abbrev pub with_entry : Contents Value → Value → Value → Contents Value
with_entry t key value = record t { entries = set_at ghosts.eq Nil t.entries key value }

-- the texts with one more, where it is not among them
abbrev pub with_text : List (List ℕ) → List ℕ → List (List ℕ)
with_text texts bytes = if list_any (bytes_eq bytes) texts then texts else texts ++ bytes ∷ []

-- the later texts begin with the earlier ones
pub record IsLonger (old new : List (List ℕ)) : Type 0 where
  pub length_ : length old ≤ length new
  pub same : (id : ℕ) → id < length old → text_at new id ≡ text_at old id

-- whatever the earlier store has, the later one has; texts and closures are as they were, the invocation at work is the same, and each closure that
-- was made since has its number
pub record IsLater (old new : StoreView) : Type 0 where
  pub texts : IsLonger old.texts new.texts
  pub tables : length old.heap.tables ≤ length new.heap.tables
  pub cells : length old.heap.cells ≤ length new.heap.cells
  pub closures : length old.heap.closures ≤ length new.heap.closures
  pub markup : length old.heap.markup ≤ length new.heap.markup
  pub closures_same : (id : ℕ) → id < length old.heap.closures → closure_at new.heap id ≡ closure_at old.heap id
  pub env : new.env ≡ old.env
  pub envs : new.envs ≡ old.envs ++ replicate (length new.heap.closures - length old.heap.closures) old.env

-- the store, whatever the numbers
abbrev pub unnumbered : StoreView → StoreView
unnumbered s = record s { envs = replicate (length s.heap.closures) 0; env = 0 }

-- whatever the earlier store has, the later one has, and texts and closures are as they were, whatever the numbers
abbrev pub IsGrown : StoreView → StoreView → Type 0
IsGrown old new = IsLater (unnumbered old) (unnumbered new)

-- a store with nothing in it
abbrev pub nothing : StoreView
nothing = record { texts = []; heap = empty; envs = []; env = 0 }
