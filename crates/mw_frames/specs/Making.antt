-- A FRAME'S TABLES as they are filled, one after another.
use Rattle.std.specs.Prelude.{ℕ, ◌+◌, [], List, length, map}
use Rattle.lua_basic.specs.LuaHeapValue.{Value, Nil, Text, Table}
use Rattle.lua_basic.specs.LuaHeapTable.{Entries}
use Rattle.lua_basic.specs.LuaHeapHeap.{Heap}
use Rattle.lua_home.specs.LuaMeaningFrames.{arg_key, with_table}
use Rattle.mw_frame.specs.declared.scene.Arg.{Arg}

-- an argument as an entry
abbrev pub arg_entry : Arg → Value × Value
arg_entry a = (arg_key a.name, Text a.value)

-- a table behind all others, and its metatable, both without entries
abbrev pub with_pair : {X : Type 0} → Heap X → Heap X
with_pair h = with_table (with_table h [] (Table (length h.tables + 1))) [] Nil
