use Rattle.page_tasks.specs.Calls.{RunsTo}
use Rattle.page_tasks.specs.Going.{IsInvocationHalt}
use Rattle.page_tasks.proofs.Passing.{if_ok}
use Rattle.page_tasks.proofs.going.run_invocation.Goals as goal

pub go_machine-requires-clause-of : goal.go_machine-requires-clause-of
go_machine-requires-clause-of g c = c.requires.of

pub go_machine-requires-clause-calls : goal.go_machine-requires-clause-calls
go_machine-requires-clause-calls g c = c.requires.calls

pub invocation_halt-requires : goal.invocation_halt-requires
invocation_halt-requires g c = c.in_ok-event.ensures.went.of.1

pub returns : goal.returns
returns g c =
    if_ok (IsInvocationHalt c.go_machine.new.store c.in_ok-event.event) (RunsTo IsInvocationHalt c.args.store.now c.args.left.now c.args.turns.now c.args.machine.now c.go_machine.new.store c.go_machine.new.left c.go_machine.new.turns c.go_machine.new.machine) c.invocation_halt.result
    (λ h is. record { event = c.in_ok-event.event; goes = c.in_ok-event.ensures.went; halts = is; falls = c.in_ok-event.ensures.falls }) c.invocation_halt.ensures
