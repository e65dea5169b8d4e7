use Rattle.std.proofs.Common.{arith}
use Rattle.lua_machine_cases.proofs.Stopped.{as_many}
use Rattle.lua_machine_cases.proofs.runs.go_once.Goals as goal

pub returns-clause-calls : goal.returns-clause-calls
returns-clause-calls g c =
    let k = as_many c.in_ok-event.event c.args.left.now c.args.machine.now.state.calls c.go.new.left c.go.new.self.state.calls c.in_ok-event.ensures.back in
    omega (arith, k, c.requires.calls)
