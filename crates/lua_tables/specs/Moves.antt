-- The last one of the values that an insertion puts: what stood at the last place that moves, or where none moves the value itself.
use Rattle.std.specs.Prelude.{ℕ, zero, suc, ℤ, pos, ◌+ℤ◌}
use Rattle.lua_basic.specs.LuaHeapValue.{Value, Number}
use Rattle.lua_basic.specs.LuaHeapTable.{Entries, get}

abbrev pub last_put : ℕ → ℤ → Value → Entries → Value
last_put zero place v es = v
last_put (suc n) place v es = get es (Number (place +ℤ pos n))
