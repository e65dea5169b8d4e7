use Rattle.page_tasks.specs.Calls.{RunsTo}
use Rattle.page_tasks.specs.Going.{IsLoadHalt}
use Rattle.page_tasks.proofs.Passing.{if_ok}
use Rattle.page_tasks.proofs.going.run_load.Goals as goal

pub go_machine-requires-clause-of : goal.go_machine-requires-clause-of
go_machine-requires-clause-of g c = c.requires.of

pub go_machine-requires-clause-calls : goal.go_machine-requires-clause-calls
go_machine-requires-clause-calls g c = c.requires.calls

pub load_halt-requires : goal.load_halt-requires
load_halt-requires g c = c.in_ok-event.ensures.went.of.1

pub returns : goal.returns
returns g c =
    if_ok (IsLoadHalt c.go_machine.new.store c.in_ok-event.event) (RunsTo IsLoadHalt c.args.store.now c.args.left.now c.args.turns.now c.args.machine.now c.go_machine.new.store c.go_machine.new.left c.go_machine.new.turns c.go_machine.new.machine) c.load_halt.result
    (λ h is. record { event = c.in_ok-event.event; goes = c.in_ok-event.ensures.went; halts = is; falls = c.in_ok-event.ensures.falls }) c.load_halt.ensures
