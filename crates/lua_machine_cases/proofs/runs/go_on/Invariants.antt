use Rattle.std.proofs.Common.{◌+◌, ◌<◌, ◌^◌}
use Rattle.lua_machine.specs.Events.{MachineOf}
use Rattle.lua_machine_cases.proofs.runs.go_on.Given as goal

-- the machine is of the store, and its calls can be given back
abbrev pub invariant-questions : goal.invariant-questions
invariant-questions g l = MachineOf l.store l.machine × (l.left.calls + l.machine.state.calls < 2 ^ 64)
