-- LAWS OF STORES. What is of a store is of each later one, and is seen as it was.
use Rattle.lua_heap.specs.Table.{HasValueKeys}
use Rattle.std.specs.Prelude.{◌≡◌, ℕ}
use Rattle.std.specs.List.{IsDistinct}
use Rattle.std.specs.Str.{bytes_eq}
use Rattle.lua_table.specs.Entries.{Contents}
use Rattle.lua_heap.specs.Proc.{proc_names}
use Rattle.lua_heap.specs.Heap.{table_at}
use Rattle.lua_heap.specs.Reach.{is_there, IsClosed}
use Rattle.lua_store.specs.declared.value.Value.{Value}
use Rattle.lua_store.specs.declared.closure.Closure.{Closure}
use Rattle.lua_store.specs.declared.markup.MarkupNode.{MarkupNode}
use Rattle.lua_store.specs.Seen.{StoreView, seen, seen_table, seen_closure, seen_node}
use Rattle.lua_store.specs.Parts.{IsOf, IsContentsOf, IsContentOf, IsNodeOf, IsLater, IsGrown}

abbrev pub ValuesStay : Type 0
ValuesStay = (s t : StoreView) (v : Value) → IsLater s t → IsOf s v → IsOf t v × (seen t.texts v ≡ seen s.texts v)

abbrev pub TablesStay : Type 0
TablesStay = (s t : StoreView) (c : Contents Value) → IsLater s t → IsContentsOf s c → IsContentsOf t c × (seen_table t.texts c ≡ seen_table s.texts c)

abbrev pub ClosuresStay : Type 0
ClosuresStay = (s t : StoreView) (c : Closure) → IsLater s t → IsContentOf s c → IsContentOf t c × (seen_closure t.texts c ≡ seen_closure s.texts c)

abbrev pub NodesStay : Type 0
NodesStay = (s t : StoreView) (n : MarkupNode) → IsLater s t → IsNodeOf s n → IsNodeOf t n × (seen_node t.texts n ≡ seen_node s.texts n)

abbrev pub LaterGoesOn : Type 0
LaterGoesOn = (s t u : StoreView) → IsLater s t → IsLater t u → IsLater s u

abbrev pub LaterIsGrown : Type 0
LaterIsGrown = (s t : StoreView) → IsLater s t → IsGrown s t

-- where no text is kept twice, two values that are seen alike are one
abbrev pub SeenOnce : Type 0
SeenOnce = (s : StoreView) (a b : Value) → IsDistinct bytes_eq s.texts → IsOf s a → IsOf s b → seen s.texts a ≡ seen s.texts b → a ≡ b

-- each key of a table is there once, and none is nil
abbrev pub KeysAreOnce : StoreView → Type 0
KeysAreOnce s = (n : ℕ) → HasValueKeys (table_at s.heap n).entries

-- whatever an object of the store names is there
abbrev pub NamesWhatIsThere : StoreView → Type 0
NamesWhatIsThere s = IsClosed proc_names (is_there s.heap) s.heap
