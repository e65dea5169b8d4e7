-- DATA (Scribunto, mw.loadData): a table whose entries are truth values, numbers, texts, and such tables. Its graph has the
-- tables that are reached, in order of first reach, with their entries that are not cleared. Or there is a first fault: the
-- tables are looked at in that order, in each the metatable and then the entries, the key before the value.
use Rattle.std.specs.Prelude.{ℕ, ◌++◌, List, [], ◌∷◌, Result, Ok, Err, if◌then◌else◌}
use Rattle.std.specs.List.{list_any}
use Rattle.std.specs.Str.{bytes_eq}
use Rattle.lua_heap.specs.LuaTableEntries.{Contents}
use Rattle.lua_heap.specs.Value.{Value, Truth, Number, Text, Table, Closure, Builtin, Markup, is_nil}
use Rattle.lua_heap.specs.Table.{Entries}
use Rattle.lua_heap.specs.Heap.{Heap, table_at}
use Rattle.lua_heap.specs.Graph.{Graph}
use Rattle.lua_walk.specs.Order.{place_of, reached, live}

-- Why a value is no data: it is no table; or in one there is a function as a value, a metatable or an object of mw.html,
-- or a key that is no truth value, number or text.
pub data Fault : Type 0 where
  NotATable HasFunction HasMetatable BadKey : Fault

abbrev pub Checked : Type 0 → Type 0
Checked A = Result A Fault

abbrev pub on_ok : {A B : Type 0} → Checked A → (A → Checked B) → Checked B
on_ok (Ok a) f = f a
on_ok (Err e) f = Err e

-- all of them, or the first fault
abbrev pub all_ok : {A B : Type 0} → (A → Checked B) → List A → Checked (List B)
all_ok f [] = Ok []
all_ok f (x ∷ xs) = on_ok (f x) (λ y. on_ok (all_ok f xs) (λ ys. Ok (y ∷ ys)))

abbrev pub key_of : Value → Checked Value
key_of (Truth b) = Ok (Truth b)
key_of (Number n) = Ok (Number n)
key_of (Text t) = Ok (Text t)
key_of v = Err BadKey

-- a value of an entry; a table is named by its place in the order
abbrev pub item_of : List ℕ → Value → Checked Value
item_of order (Table t) = Ok (Table (place_of order t))
item_of order (Closure c) = Err HasFunction
item_of order (Builtin b) = Err HasFunction
item_of order (Markup m) = Err HasMetatable
item_of order v = Ok v

abbrev pub entry_of : List ℕ → Value × Value → Checked (Value × Value)
entry_of order e = on_ok (key_of e.0) (λ k. on_ok (item_of order e.1) (λ v. Ok (k, v)))

abbrev pub node_of : List ℕ → Contents Value → Checked Entries
node_of order t = if is_nil t.meta then all_ok (entry_of order) (live t.entries) else Err HasMetatable

-- THE GRAPH of a value, or its first fault
abbrev pub taken : {X : Type 0} → Heap X → Value → Checked Graph
taken h (Table t) = all_ok (λ n. node_of (reached h t) (table_at h n)) (reached h t)
taken h v = Err NotATable

-- THE TEXTS of a graph, each once, in order of first reach
abbrev pub with_text : List (List ℕ) → List ℕ → List (List ℕ)
with_text texts t = if list_any (bytes_eq t) texts then texts else texts ++ t ∷ []

abbrev pub with_text_of : List (List ℕ) → Value → List (List ℕ)
with_text_of texts (Text t) = with_text texts t
with_text_of texts v = texts

abbrev pub with_texts_of_entries : List (List ℕ) → Entries → List (List ℕ)
with_texts_of_entries texts [] = texts
with_texts_of_entries texts (e ∷ es) = with_texts_of_entries (with_text_of (with_text_of texts e.0) e.1) es

abbrev pub with_texts_of : List (List ℕ) → Graph → List (List ℕ)
with_texts_of texts [] = texts
with_texts_of texts (es ∷ g) = with_texts_of (with_texts_of_entries texts es) g

abbrev pub texts_of : Graph → List (List ℕ)
texts_of g = with_texts_of [] g
