-- WHAT `unpack` GIVES once its arguments are known (manual 5.1): the entries at the numbers from one to another, each for a step.
use Rattle.std.specs.Prelude.{ℕ, ℤ}
use Rattle.lua_store.specs.LuaHeapProc.{Proc}
use Rattle.lua_store.specs.LuaHeapHeap.{Heap, table_at}
use Rattle.lua_meaning.specs.Arguments.{Plain, costs}
use Rattle.lua_meaning.specs.Basic.{count_between, entries_from}

abbrev pub unpacked : Heap Proc → ℕ → ℤ → ℤ → Plain Proc
unpacked h t first last = costs (count_between first last) h (entries_from (count_between first last) first (table_at h t).entries)
