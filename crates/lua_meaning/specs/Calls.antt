-- CALLS (manual 2.5.8 and 2.8, "call").
-- A function that is called is a thing that begins: here it is named, with the levels that an error at its entry has.
use Rattle.std.specs.Prelude.{List, ◌∷◌, Option, Some, None, codes}
use Rattle.page_run.specs.Outcome.{◌>>=◌, begin}
use Rattle.lua_walk.specs.LuaHeapValue.{Value, Table, Closure, Builtin, is_nil}
use Rattle.lua_walk.specs.LuaHeapHeap.{Closed, Function as FunctionClosed, Iterator, closure_at}
use Rattle.lua_meaning.specs.Scope.{Levels, Function}
use Rattle.lua_meaning.specs.Acts.{Act, Body, LibraryBody, CallLink, choose, see_heap}
use Rattle.lua_meaning.specs.Messages.{fail, cannot_call}
use Rattle.lua_meaning.specs.Metatables.{handler}

-- an iterator of the library is stepped by a function of the library, whose first argument is the iterator
abbrev pub enter : Value → Option (Closed Function) → List Value → Levels → Act (List Value)
enter f None args ls = fail ls (cannot_call f)
enter f (Some (FunctionClosed g)) args ls = begin (Body g args ls)
enter f (Some (Iterator step cells)) args ls = begin (LibraryBody step (f ∷ args) ls)

-- a value that is no function has a handler, which gets it as its first argument, or can't be called
abbrev pub call_by : Value → Value → List Value → Levels → Act (List Value)
call_by h v args ls = choose (is_nil h) (fail ls (cannot_call v)) (begin (CallLink h (v ∷ args) ls))

abbrev pub call : Value → List Value → Levels → Act (List Value)
call (Closure c) args ls = do
  h ← see_heap
  enter (Closure c) (closure_at h c) args ls
call (Builtin b) args ls = begin (LibraryBody b args ls)
call (Table t) args ls = do
  h ← see_heap
  call_by (handler h (Table t) (codes "__call")) (Table t) args ls
call v args ls = fail ls (cannot_call v)
