-- Calls, indexing, and assignment to an index.
use Rattle.std.proofs.Common.{refl, inl, inr}
use Rattle.std.specs.Prelude.{ℕ, zero, suc, slice_get, List, [], ◌∷◌, Option, Some, None, codes}
use Rattle.lua_walk.specs.LuaHeapValue.{Value, Table, Text, Closure, Builtin, Markup, is_nil}
use Rattle.lua_meaning.specs.LuaHeapTable.{get}
use Rattle.lua_walk.specs.LuaHeapHeap.{Heap, Closed, Function as FunctionClosed, Iterator, closure_at, table_at}
use Rattle.lua_meaning.specs.Scope.{Function, Levels}
use Rattle.lua_meaning.specs.Messages.{read_only, nil_key}
use Rattle.lua_meaning.specs.Metatables.{handler}
use Rattle.lua_meaning.specs.Calls as calls
use Rattle.lua_meaning.specs.Index as indexing
use Rattle.lua_lint_laws.proofs.Told.{Allowed, AreSound, IsSound, IsSoundHeap, Quiet, ◌>>=◌, ◌>>◌, give, tick, choose, begin, look, look_heap}
use Rattle.lua_lint_laws.proofs.Heaps.{one, see_heap, change_heap, fail}

-- a function that is called is sound, if it is one
abbrev pub IfSound : Allowed → Option (Closed Function) → Type 0
IfSound P None = Unit {0}
IfSound P (Some (FunctionClosed f)) = IsSound P f
IfSound P (Some (Iterator step cells)) = Unit {0}

found : {P : Allowed} → (closures : List (Closed Function)) → AreSound P closures → (c : ℕ) → IfSound P (slice_get closures c)
found [] ok zero = tt
found [] ok (suc c) = tt
found (FunctionClosed f ∷ closures) ok zero = ok.each f (inl refl)
found (Iterator step cells ∷ closures) ok zero = tt
found (x ∷ closures) ok (suc c) = found closures (record { each = λ f at. ok.each f (inr at) }) c

pub enter : {P : Allowed} → (f : Value) (closed : Option (Closed Function)) → IfSound P closed → (args : List Value) (ls : Levels) → Quiet P (calls.enter f closed args ls)
enter f None sound args ls = fail ls _
enter f (Some (FunctionClosed g)) sound args ls = begin _ sound
enter f (Some (Iterator step cells)) sound args ls = begin _ tt

pub call_by : {P : Allowed} → (h v : Value) (args : List Value) (ls : Levels) → Quiet P (calls.call_by h v args ls)
call_by h v args ls = choose _ (fail ls _) (begin _ tt)

pub call : {P : Allowed} → (v : Value) (args : List Value) (ls : Levels) → Quiet P (calls.call v args ls)
call (Closure c) args ls = look_heap (λ h ok. enter (Closure c) (closure_at h c) (found h.closures ok c) args ls)
call (Builtin b) args ls = begin _ tt
call (Table t) args ls = do
  h ← see_heap
  call_by (handler h (Table t) (codes "__call")) (Table t) args ls
call v args ls = fail ls _

-- READING
pub index_by : {P : Allowed} → (h object key : Value) (ls : Levels) → Quiet P (indexing.index_by h object key ls)
index_by h object key ls = choose _ (give _) (begin _ tt)

pub index_table : {P : Allowed} → (t : ℕ) (key : Value) (ls : Levels) → Quiet P (indexing.index_table t key ls)
index_table t key ls = do
  h ← see_heap
  choose (is_nil (get (table_at h t).entries key)) (index_by (handler h (Table t) (codes "__index")) (Table t) key ls) (give (get (table_at h t).entries key ∷ []))

pub index_all : {P : Allowed} → (v key : Value) (ls : Levels) → Quiet P (indexing.index_all v key ls)
index_all (Table t) key ls = index_table t key ls
index_all (Text text) key ls = look (λ s e. index_table s.strings key ls)
index_all (Markup m) key ls = give _
index_all v key ls = fail ls _

pub index_link : {P : Allowed} → (object h key : Value) (ls : Levels) → Quiet P (indexing.index_link object h key ls)
index_link object h key ls = choose _ (call h _ ls) (index_all h key ls)

pub index : {P : Allowed} → (v key : Value) (ls : Levels) → Quiet P (indexing.index v key ls)
index v key ls = one (index_all v key ls)

-- WRITING
pub put_entry : {P : Allowed} → (h : Heap Function) → IsSoundHeap P h → (t : ℕ) (key value : Value) → Quiet P (indexing.put_entry h t key value)
put_entry h ok t key value = choose _ (change_heap _ ok) (tick _ >> change_heap _ ok)

pub set_entry : {P : Allowed} → (t : ℕ) (key value : Value) (ls : Levels) → Quiet P (indexing.set_entry t key value ls)
set_entry t key value ls = look_heap (λ h ok. choose (table_at h t).frozen (fail ls read_only) (choose (is_nil key) (fail ls nil_key) (put_entry h ok t key value)))

pub set_by : {P : Allowed} → (h : Value) (t : ℕ) (key value : Value) (ls : Levels) → Quiet P (indexing.set_by h t key value ls)
set_by h t key value ls = choose _ (set_entry t key value ls >> give _) (begin _ tt)

pub set_table : {P : Allowed} → (t : ℕ) (key value : Value) (ls : Levels) → Quiet P (indexing.set_table t key value ls)
set_table t key value ls = do
  h ← see_heap
  choose (is_nil (get (table_at h t).entries key)) (set_by (handler h (Table t) (codes "__newindex")) t key value ls) (set_entry t key value ls >> give [])

pub set_all : {P : Allowed} → (v key value : Value) (ls : Levels) → Quiet P (indexing.set_all v key value ls)
set_all (Table t) key value ls = set_table t key value ls
set_all v key value ls = fail ls _

pub set_link : {P : Allowed} → (object h key value : Value) (ls : Levels) → Quiet P (indexing.set_link object h key value ls)
set_link object h key value ls = choose _ (call h _ ls) (set_all h key value ls)

pub set_index : {P : Allowed} → (v key value : Value) (ls : Levels) → Quiet P (indexing.set_index v key value ls)
set_index v key value ls = set_all v key value ls >> give tt
