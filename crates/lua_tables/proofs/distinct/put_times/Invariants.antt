use Rattle.std.proofs.Common.{◌≡◌, ◌++◌, replicate}
use Rattle.lua_basic.specs.LuaStoreDeclaredValueValueTheVariants as own
use Rattle.lua_tables.proofs.distinct.put_times.Given as goal

abbrev pub invariant-times : goal.invariant-times
invariant-times l = l.values ≡ l.initial.values ++ replicate l._turn (own.Text l.text)
