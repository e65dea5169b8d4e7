-- WHAT IS TAKEN OUT OF A STORE: tables and texts by their places in order of first reach (`lua_walk`, Order and Data).
use Rattle.std.specs.Prelude.{◌≡◌, ℕ, ◌<◌, true, false, if◌then◌else◌, List, [], ◌∷◌, ◌++◌, length, map, Option, Some, None, Ok, Err}
use Rattle.std.specs.List.{AllByRecursion, IsDistinct, list_any}
use Rattle.std.specs.Str.{bytes_eq}
use Rattle.lua_walk.specs.LuaHeapValue as heap
use Rattle.lua_walk.specs.LuaHeapValue.{is_nil}
use Rattle.lua_store.specs.LuaHeapTable.{Entries}
use Rattle.lua_walk.specs.Data as walk
use Rattle.lua_walk.specs.LuaHeapGraph.{Graph}
use Rattle.lua_walk.specs.Data.{Checked, entry_of, with_text_of, with_texts_of_entries, with_texts_of}
use Rattle.lua_store.specs.declared.ids.TextId.{TextId}
use Rattle.lua_store.specs.declared.ids.TableId.{TableId}
use Rattle.lua_store.specs.contracts.ids.TextIdPartialEq.TheImpl.{ghosts as text_id}
use Rattle.lua_store.specs.declared.value.Value.{Value}
use Rattle.lua_store.specs.Seen.{StoreView}
use Rattle.lua_store.specs.Parts.{IsTextOf}
use Rattle.lua_graph.specs.declared.fault.DataFault.{DataFault}
use Rattle.lua_graph.specs.declared.fault.DataFault.TheVariants.{NotATable, HasFunction, HasMetatable, BadKey, NoMemory}
use Rattle.lua_graph.specs.declared.graph.GraphItem.{GraphItem}
use Rattle.lua_graph.specs.declared.graph.GraphItem.TheVariants as item
use Rattle.lua_graph.specs.declared.graph.GraphEntry.{GraphEntry}
use Rattle.lua_graph.specs.declared.graph.GraphNode.{GraphNode}
use Rattle.lua_graph.specs.Plain.{plain_item, plain_entry, plain_entries, plain_nodes}
use Rattle.lua_graph.specs.Put.{named}

-- the numbers of tables
abbrev pub places : List TableId → List ℕ
places ts = map (λ (t : TableId). t.at) ts

-- the fault of the definition that an answer tells; memory may be wanting at any time
abbrev pub IsFault : {A : Type 0} → Checked A → DataFault → Type 0
IsFault r NotATable = r ≡ Err walk.NotATable
IsFault r HasFunction = r ≡ Err walk.HasFunction
IsFault r HasMetatable = r ≡ Err walk.HasMetatable
IsFault r BadKey = r ≡ Err walk.BadKey
IsFault r NoMemory = Unit {0}

-- the texts with one more, where it is not among them
abbrev pub with_id : List TextId → TextId → List TextId
with_id ids id = if list_any (text_id.eq id) ids then ids else ids ++ id ∷ []

-- a text is named by a place among so many
abbrev pub IsTextIn : ℕ → GraphItem → Type 0
IsTextIn count (item.Text at) = at < count
IsTextIn count _ = Unit {0}

abbrev pub AreTextsIn : ℕ → GraphEntry → Type 0
AreTextsIn count e = IsTextIn count e.key × IsTextIn count e.value

-- THE TEXTS, of which some were met before and some on the way: those that come are behind the others
pub record Grows (s : StoreView) (before after : List TextId) : Type 0 where
  pub more : List TextId
  pub is : after ≡ before ++ more
  pub of : AllByRecursion (IsTextOf s) before → AllByRecursion (IsTextOf s) after

-- An item stands for the datum that the definition gives for a key or value; its text is among those that were met.
pub record IsRead (s : StoreView) (before after : List TextId) (datum : Checked heap.Value) (i : GraphItem) : Type 0 where
  pub value : datum ≡ Ok (plain_item (named s.texts after) i)
  pub placed : IsTextIn (length after) i
  pub grows : Grows s before after
  pub texts : IsDistinct bytes_eq s.texts → AllByRecursion (IsTextOf s) before → named s.texts after ≡ with_text_of (named s.texts before) (plain_item (named s.texts after) i)

-- An entry likewise, which is left out where it is cleared.
pub record EntryIsRead (s : StoreView) (order : List ℕ) (before after : List TextId) (e : heap.Value × heap.Value) (d : GraphEntry) : Type 0 where
  pub live : is_nil e.1 ≡ false
  pub entry : entry_of order e ≡ Ok (plain_entry (named s.texts after) d)
  pub placed : AreTextsIn (length after) d
  pub grows : Grows s before after
  pub texts : IsDistinct bytes_eq s.texts → AllByRecursion (IsTextOf s) before → named s.texts after ≡ with_text_of (with_text_of (named s.texts before) (plain_item (named s.texts after) d.key)) (plain_item (named s.texts after) d.value)

abbrev pub IsEntryRead : StoreView → List ℕ → List TextId → List TextId → heap.Value × heap.Value → Option GraphEntry → Type 0
IsEntryRead s order before after e None = (is_nil e.1 ≡ true) × (after ≡ before)
IsEntryRead s order before after e (Some d) = EntryIsRead s order before after e d

-- The entries of a table, and of all tables.
pub record AreRead (s : StoreView) (before after : List TextId) (datum : Checked Entries) (es : List GraphEntry) : Type 0 where
  pub entries : datum ≡ Ok (plain_entries (named s.texts after) es)
  pub placed : AllByRecursion (AreTextsIn (length after)) es
  pub grows : Grows s before after
  pub texts : IsDistinct bytes_eq s.texts → AllByRecursion (IsTextOf s) before → named s.texts after ≡ with_texts_of_entries (named s.texts before) (plain_entries (named s.texts after) es)

pub record NodesAreRead (s : StoreView) (before after : List TextId) (datum : Checked Graph) (ns : List GraphNode) : Type 0 where
  pub nodes : datum ≡ Ok (plain_nodes (named s.texts after) ns)
  pub placed : AllByRecursion (λ (n : GraphNode). AllByRecursion (AreTextsIn (length after)) n.entries) ns
  pub grows : Grows s before after
  pub texts : IsDistinct bytes_eq s.texts → AllByRecursion (IsTextOf s) before → named s.texts after ≡ with_texts_of (named s.texts before) (plain_nodes (named s.texts after) ns)
