-- THE GREATEST KEY of a table is found, for a step for each entry.
use Rattle.std.specs.Prelude.{◌≡◌, ℤ, pos, length, Result, Ok, Err}
use Rattle.lua_number.specs.WkBaseDeclaredLeftLeft.{Left}
use Rattle.lua_basic.specs.LuaHeapTable.{Entries}
use Rattle.lua_basic.specs.declared.stop.Stop.{Stop}
use Rattle.lua_basic.specs.declared.stop.Stop.TheVariants as stop
use Rattle.lua_basic.specs.LuaMeaningTableLibrary.{greatest_key}
use Rattle.lua_tables.specs.Paying.{IsTaken, IsOver}

abbrev pub Counts : Entries → Left → Left → Result ℤ Stop → Type 0
Counts es l m (Ok n) = (greatest_key (pos 0) es ≡ n) × IsTaken (length es) l m
Counts es l m (Err (stop.Raised v level)) = ⊥
Counts es l m (Err stop.Spent) = IsOver (length es) l m
Counts es l m (Err stop.NoMemory) = Unit {0}
