use Rattle.lua_machine.specs.LuaStoreParts.{IsTableOf, IsLater}
use Rattle.lua_machine_cases.proofs.replies.set_entries.Given as goal

-- the table is there, and the store is a later one
abbrev pub invariant-entries : goal.invariant-entries
invariant-entries l = IsTableOf l.store l.table × IsLater l.fn.store l.store
