use Rattle.lua_machine.proofs.machine.Machine.go.Goals as goal

pub returns-clause-goes : goal.returns-clause-goes
returns-clause-goes g c = rw c.replace-focus.ensures.value at c.in_ok-event.ensures.goes
