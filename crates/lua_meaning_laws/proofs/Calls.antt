-- Calls, indexing, and assignment to an index.
use Rattle.std.specs.Prelude.{ℕ, List, [], ◌∷◌, Option, Some, None, codes}
use Rattle.lua_meaning.specs.LuaHeapValue.{Value, Table, Text, Closure, Builtin, Markup, is_nil}
use Rattle.lua_meaning.specs.LuaHeapTable.{get}
use Rattle.lua_meaning.specs.LuaHeapHeap.{Heap, Closed, Function as FunctionClosed, Iterator, closure_at, table_at}
use Rattle.lua_meaning.specs.Scope.{Function, Levels}
use Rattle.lua_meaning.specs.Messages.{read_only, nil_key}
use Rattle.lua_meaning.specs.Metatables.{handler}
use Rattle.lua_meaning.specs.Calls as calls
use Rattle.lua_meaning.specs.Index as indexing
use Rattle.lua_meaning_laws.proofs.OnlyData.{Quiet, ◌>>=◌, ◌>>◌, give, tick, choose, begin, look}
use Rattle.lua_meaning_laws.proofs.Heaps.{one, see_heap, change_heap, fail}

pub enter : (f : Value) (closed : Option (Closed Function)) (args : List Value) (ls : Levels) → Quiet (calls.enter f closed args ls)
enter f None args ls = fail ls _
enter f (Some (FunctionClosed g)) args ls = begin _
enter f (Some (Iterator step cells)) args ls = begin _

pub call_by : (h v : Value) (args : List Value) (ls : Levels) → Quiet (calls.call_by h v args ls)
call_by h v args ls = choose _ (fail ls _) (begin _)

pub call : (v : Value) (args : List Value) (ls : Levels) → Quiet (calls.call v args ls)
call (Closure c) args ls = do
  h ← see_heap
  enter (Closure c) (closure_at h c) args ls
call (Builtin b) args ls = begin _
call (Table t) args ls = do
  h ← see_heap
  call_by (handler h (Table t) (codes "__call")) (Table t) args ls
call v args ls = fail ls _

-- READING
pub index_by : (h object key : Value) (ls : Levels) → Quiet (indexing.index_by h object key ls)
index_by h object key ls = choose _ (give _) (begin _)

pub index_table : (t : ℕ) (key : Value) (ls : Levels) → Quiet (indexing.index_table t key ls)
index_table t key ls = do
  h ← see_heap
  choose (is_nil (get (table_at h t).entries key)) (index_by (handler h (Table t) (codes "__index")) (Table t) key ls) (give (get (table_at h t).entries key ∷ []))

pub index_all : (v key : Value) (ls : Levels) → Quiet (indexing.index_all v key ls)
index_all (Table t) key ls = index_table t key ls
index_all (Text text) key ls = look (λ s e. index_table s.strings key ls)
index_all (Markup m) key ls = give _
index_all v key ls = fail ls _

pub index_link : (object h key : Value) (ls : Levels) → Quiet (indexing.index_link object h key ls)
index_link object h key ls = choose _ (call h _ ls) (index_all h key ls)

pub index : (v key : Value) (ls : Levels) → Quiet (indexing.index v key ls)
index v key ls = one (index_all v key ls)

-- WRITING
pub put_entry : (h : Heap Function) (t : ℕ) (key value : Value) → Quiet (indexing.put_entry h t key value)
put_entry h t key value = choose _ (change_heap _) (tick _ >> change_heap _)

pub set_entry : (t : ℕ) (key value : Value) (ls : Levels) → Quiet (indexing.set_entry t key value ls)
set_entry t key value ls = do
  h ← see_heap
  choose (table_at h t).frozen (fail ls read_only) (choose (is_nil key) (fail ls nil_key) (put_entry h t key value))

pub set_by : (h : Value) (t : ℕ) (key value : Value) (ls : Levels) → Quiet (indexing.set_by h t key value ls)
set_by h t key value ls = choose _ (set_entry t key value ls >> give _) (begin _)

pub set_table : (t : ℕ) (key value : Value) (ls : Levels) → Quiet (indexing.set_table t key value ls)
set_table t key value ls = do
  h ← see_heap
  choose (is_nil (get (table_at h t).entries key)) (set_by (handler h (Table t) (codes "__newindex")) t key value ls) (set_entry t key value ls >> give [])

pub set_all : (v key value : Value) (ls : Levels) → Quiet (indexing.set_all v key value ls)
set_all (Table t) key value ls = set_table t key value ls
set_all v key value ls = fail ls _

pub set_link : (object h key value : Value) (ls : Levels) → Quiet (indexing.set_link object h key value ls)
set_link object h key value ls = choose _ (call h _ ls) (set_all h key value ls)

pub set_index : (v key value : Value) (ls : Levels) → Quiet (indexing.set_index v key value ls)
set_index v key value ls = set_all v key value ls >> give tt
