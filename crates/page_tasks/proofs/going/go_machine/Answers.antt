use Rattle.std.proofs.Common.{◌≡◌, false, sym, subst}
use Rattle.lua_machine.specs.declared.event.Event.{Event}
use Rattle.page_tasks.specs.Going.{MachineGoes}
use Rattle.page_tasks.specs.Falling.{StepsFall}
use Rattle.page_tasks.proofs.Passing.{if_ok}
use Rattle.page_tasks.proofs.going.go_machine.Goals as goal

pub go-requires-clause-machine : goal.go-requires-clause-machine
go-requires-clause-machine g c = rw c.get_mut.ensures.value c.requires.of

pub go-requires-clause-calls : goal.go-requires-clause-calls
go-requires-clause-calls g c = rw c.get_mut.ensures.value c.requires.calls

pub returns-clause-went : goal.returns-clause-went
returns-clause-went g c =
    let goes : Event → Type 0 = λ e. MachineGoes c.args.store.now c.args.left.now c.args.turns.now c.get_mut.result.now c.go.new.store c.go.new.left c.go.new.turns c.go.new.self e in
    let w = c.in_ok-event.ensures in
    let here : goes c.in_ok-event.event = record { of = w.of; world = w.world; later = w.later; goes = w.goes; counts = w.counts; back = w.back; takes = w.takes; height = w.height } in
    rw (← c.get_mut.ensures.value) (if_ok (λ e. (e ≡ c.in_ok-event.event) × (c.is_idle-idle.result ≡ false)) goes c.unless.result (λ e is. subst goes (sym is.0) here) c.unless.ensures)

pub returns-clause-falls : goal.returns-clause-falls
returns-clause-falls g c =
    let falls : Event → Type 0 = λ e. StepsFall e c.args.left.now.steps c.go.new.left.steps in
    if_ok (λ e. (e ≡ c.in_ok-event.event) × (c.is_idle-idle.result ≡ false)) falls c.unless.result (λ e is. subst falls (sym is.0) (c.is_idle-idle.ensures is.1)) c.unless.ensures
