-- WHAT IS SEEN OF A STORE: its texts, and its objects as a heap of Lua. In the heap a text is its bytes and never its number.
use Rattle.std.specs.Prelude.{ℕ, List, [], map, Option, Some, None, slice_index_or}
use Rattle.std.specs.Option.{option_map}
use Rattle.lua_table.specs.Entries.{Contents}
use Rattle.lua_table.specs.declared.table.Step.{Step}
use Rattle.lua_table.specs.declared.table.NoSuchKey.{NoSuchKey}
use Rattle.std.specs.Prelude.{Result, Ok, Err}
use Rattle.lua_heap.specs.Value.{Value, Nil, Truth, Number, Text, Table, Closure as ClosureValue, Builtin, Markup}
use Rattle.lua_heap.specs.Table.{ValueStop}
use Rattle.lua_heap.specs.Heap.{Closed, Function, Iterator, Heap, MarkupNode, MarkupStyle, Item, StyleText, MarkupChild, ChildText, ChildNode}
use Rattle.lua_store.specs.declared.value.Value.{Value as Stored}
use Rattle.lua_store.specs.declared.value.Value.TheVariants.{Nil as StoredNil, Bool as StoredBool, Number as StoredNumber, Text as StoredText, Table as StoredTable, Closure as StoredClosure, Builtin as StoredBuiltin, Markup as StoredMarkup}
use Rattle.lua_heap.specs.Proc.{Proc}
use Rattle.lua_store.specs.declared.closure.Closure.{Closure}
use Rattle.lua_store.specs.declared.closure.ClosureKind.{ClosureKind}
use Rattle.lua_store.specs.declared.closure.ClosureKind.TheVariants.{Function as StoredFunction, Iterator as StoredIterator}
use Rattle.lua_store.specs.declared.ids.CellId.{CellId}
use Rattle.lua_store.specs.declared.markup.TextPair.{TextPair}
use Rattle.lua_store.specs.declared.markup.MarkupStyle.{MarkupStyle as StoredStyle}
use Rattle.lua_store.specs.declared.markup.MarkupStyle.TheVariants.{Item as StoredItem, Text as StoredStyleText}
use Rattle.lua_store.specs.declared.markup.MarkupChild.{MarkupChild as StoredChild}
use Rattle.lua_store.specs.declared.markup.MarkupChild.TheVariants.{Text as StoredChildText, Node as StoredChildNode}
use Rattle.lua_store.specs.declared.markup.MarkupNode.{MarkupNode as StoredNode}

-- a store: the texts in the order in which they were made, the objects, for each closure the number of its invocation, and the number of the
-- invocation at work
pub record StoreView : Type 0 where
  pub texts : List (List ℕ)
  pub heap : Heap Proc
  pub envs : List ℕ
  pub env : ℕ

-- the bytes of a text
abbrev pub text_at : List (List ℕ) → ℕ → List ℕ
text_at texts id = slice_index_or texts id []

abbrev pub seen : List (List ℕ) → Stored → Value
seen texts StoredNil = Nil
seen texts (StoredBool b) = Truth b
seen texts (StoredNumber n) = Number n
seen texts (StoredText id) = Text (text_at texts id.at)
seen texts (StoredTable id) = Table id.at
seen texts (StoredClosure id) = ClosureValue id.at
seen texts (StoredBuiltin which) = Builtin which
seen texts (StoredMarkup id) = Markup id.at

abbrev pub seen_entry : List (List ℕ) → Stored × Stored → Value × Value
seen_entry texts e = (seen texts e.0, seen texts e.1)

abbrev pub seen_table : List (List ℕ) → Contents Stored → Contents Value
seen_table texts t = record { entries = map (seen_entry texts) t.entries; meta = seen texts t.meta; frozen = t.frozen }

-- the numbers of cells
abbrev pub places_of : List CellId → List ℕ
places_of = map (λ id. id.at)

-- a function of Lua, or an iterator, with its cells
abbrev pub closed_of : List (List ℕ) → ClosureKind → List ℕ → Closed Proc
closed_of texts (StoredFunction p) cells = Function (record { title = text_at texts p.title.at; index = p.index; cells = cells })
closed_of texts (StoredIterator step) cells = Iterator step cells

abbrev pub seen_closure : List (List ℕ) → Closure → Closed Proc
seen_closure texts c = closed_of texts c.kind (places_of c.cells)

abbrev pub seen_pair : List (List ℕ) → TextPair → List ℕ × List ℕ
seen_pair texts p = (text_at texts p.name.at, text_at texts p.value.at)

abbrev pub seen_style : List (List ℕ) → StoredStyle → MarkupStyle
seen_style texts (StoredItem p) = Item (text_at texts p.name.at) (text_at texts p.value.at)
seen_style texts (StoredStyleText id) = StyleText (text_at texts id.at)

abbrev pub seen_child : List (List ℕ) → StoredChild → MarkupChild
seen_child texts (StoredChildText id) = ChildText (text_at texts id.at)
seen_child texts (StoredChildNode id) = ChildNode id.at

abbrev pub seen_node : List (List ℕ) → StoredNode → MarkupNode
seen_node texts n = record {
  name = text_at texts n.name.at;
  closed = n.closed;
  parent = option_map (λ id. id.at) n.parent;
  attrs = map (seen_pair texts) n.attrs;
  styles = map (seen_style texts) n.styles;
  children = map (seen_child texts) n.children;
}

-- where a walk by `next` stops
abbrev pub seen_step : List (List ℕ) → Step Stored → ValueStop
seen_step texts s = record { key = seen texts s.key; value = seen texts s.value; passed = s.passed }

abbrev pub seen_next : List (List ℕ) → Result (Step Stored) NoSuchKey → Option ValueStop
seen_next texts (Ok s) = Some (seen_step texts s)
seen_next texts (Err e) = None
