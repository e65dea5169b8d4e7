-- INDEXING, AND ASSIGNMENT TO AN INDEX (manual 2.3 and 2.8, "index" and "newindex").
-- Where a handler is asked, what it gives is given as it is: a link is the last thing that is done, so that a chain of any length
-- is no nesting. The one value is taken at the end of the chain.
use Rattle.std.specs.Prelude.{ℕ, ◌||◌, List, [], ◌∷◌, codes}
use Rattle.page_run.specs.Outcome.{◌>>=◌, ◌>>◌, give, tick, see, begin}
use Rattle.lua_walk.specs.LuaHeapValue.{Value, Nil, Text, Table, Markup, is_nil}
use Rattle.mw_html.specs.LuaHeapTable.{get, has}
use Rattle.lua_walk.specs.LuaHeapHeap.{Heap, table_at, set_in}
use Rattle.lua_meaning.specs.Charges.{entry_charge}
use Rattle.lua_meaning.specs.Scope.{Levels, Function}
use Rattle.lua_meaning.specs.Values.{is_function}
use Rattle.lua_meaning.specs.Acts.{Act, IndexLink, SetLink, choose, one, see_heap, change_heap}
use Rattle.lua_meaning.specs.Messages.{fail, cannot_index, nil_key, read_only}
use Rattle.lua_meaning.specs.Metatables.{handler}
use Rattle.lua_meaning.specs.Calls.{call}
use Rattle.lua_meaning.specs.Html.{field_of_object}

-- READING. Where the key is absent, the handler is asked, which is a link of a chain.
abbrev pub index_by : Value → Value → Value → Levels → Act (List Value)
index_by h object key ls = choose (is_nil h) (give (Nil ∷ [])) (begin (IndexLink object h key ls))

abbrev pub index_table : ℕ → Value → Levels → Act (List Value)
index_table t key ls = do
  h ← see_heap
  choose (is_nil (get (table_at h t).entries key))
      (index_by (handler h (Table t) (codes "__index")) (Table t) key ls)
      (give (get (table_at h t).entries key ∷ []))

-- A string is indexed in the table of the functions for strings. The fields of an object of mw.html are its methods.
abbrev pub index_all : Value → Value → Levels → Act (List Value)
index_all (Table t) key ls = index_table t key ls
index_all (Text text) key ls = do
  s ← see
  index_table s.strings key ls
index_all (Markup m) key ls = give (field_of_object key ∷ [])
index_all v key ls = fail ls (cannot_index v)

-- what a link means: a handler that is a function is called with the object and the key, another one is indexed in turn
abbrev pub index_link : Value → Value → Value → Levels → Act (List Value)
index_link object h key ls = choose (is_function h) (call h (object ∷ key ∷ []) ls) (index_all h key ls)

-- the value at an index
abbrev pub index : Value → Value → Levels → Act Value
index v key ls = one (index_all v key ls)

-- WRITING without handlers: a table that is read-only refuses, and so does the key nil; a new entry has its charge.
abbrev pub put_entry : Heap Function → ℕ → Value → Value → Act (Unit {0})
put_entry h t key value =
    choose (has (table_at h t).entries key || is_nil value)
    (change_heap (set_in h t key value))
    (tick entry_charge >> change_heap (set_in h t key value))

abbrev pub set_entry : ℕ → Value → Value → Levels → Act (Unit {0})
set_entry t key value ls = do
  h ← see_heap
  choose (table_at h t).frozen
      (fail ls read_only)
      (choose (is_nil key) (fail ls nil_key) (put_entry h t key value))

-- WRITING. Where the key is absent and there is a handler, that one is asked. What it gives is dropped at the end of the chain.
abbrev pub set_by : Value → ℕ → Value → Value → Levels → Act (List Value)
set_by h t key value ls = choose (is_nil h) (set_entry t key value ls >> give []) (begin (SetLink (Table t) h key value ls))

abbrev pub set_table : ℕ → Value → Value → Levels → Act (List Value)
set_table t key value ls = do
  h ← see_heap
  choose (is_nil (get (table_at h t).entries key))
      (set_by (handler h (Table t) (codes "__newindex")) t key value ls)
      (set_entry t key value ls >> give [])

abbrev pub set_all : Value → Value → Value → Levels → Act (List Value)
set_all (Table t) key value ls = set_table t key value ls
set_all v key value ls = fail ls (cannot_index v)

abbrev pub set_link : Value → Value → Value → Value → Levels → Act (List Value)
set_link object h key value ls = choose (is_function h) (call h (object ∷ key ∷ value ∷ []) ls) (set_all h key value ls)

-- an assignment to an index
abbrev pub set_index : Value → Value → Value → Levels → Act (Unit {0})
set_index v key value ls = set_all v key value ls >> give tt
