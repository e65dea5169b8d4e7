use Rattle.lua_machine.proofs.library.called.Goals as goal

pub returns-in-Builtin : goal.returns-in-Builtin
returns-in-Builtin c = rw c.in-Builtin.is at rw c.in-Calls.is at c.of_newest.ensures
