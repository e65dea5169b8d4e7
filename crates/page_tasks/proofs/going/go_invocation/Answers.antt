use Rattle.page_tasks.specs.Calls.{RunsTo}
use Rattle.page_tasks.specs.Going.{IsInvocationHalt}
use Rattle.page_tasks.proofs.Halting.{invocation_halts, invocation_goes, invocation_falls}
use Rattle.page_tasks.proofs.going.go_invocation.Goals as goal

pub run_invocation-requires-clause-of : goal.run_invocation-requires-clause-of
run_invocation-requires-clause-of g c = c.requires.of

pub run_invocation-requires-clause-calls : goal.run_invocation-requires-clause-calls
run_invocation-requires-clause-calls g c = c.requires.back.calls

pub returns-in-Ok-clause-halts : goal.returns-in-Ok-clause-halts
returns-in-Ok-clause-halts g c =
    let r : RunsTo IsInvocationHalt c.args.store.now c.args.left.now c.args.turns.now c.args.machine c.run_invocation.new.store c.run_invocation.new.left c.run_invocation.new.turns c.run_invocation.new.machine c.in-Ok.halt = rw c.in-Ok.is at c.run_invocation.ensures in
    invocation_halts c.args.store.now c.args.left.now c.args.turns.now c.args.machine c.run_invocation.new.store c.run_invocation.new.left c.run_invocation.new.turns c.run_invocation.new.machine r.event r.goes c.in-Ok.halt r.halts

pub returns-in-Ok-clause-goes : goal.returns-in-Ok-clause-goes
returns-in-Ok-clause-goes g c = λ n e.
    let r : RunsTo IsInvocationHalt c.args.store.now c.args.left.now c.args.turns.now c.args.machine c.run_invocation.new.store c.run_invocation.new.left c.run_invocation.new.turns c.run_invocation.new.machine c.in-Ok.halt = rw c.in-Ok.is at c.run_invocation.ensures in
    invocation_goes c.args.store.now c.args.left.now c.args.turns.now c.args.machine c.run_invocation.new.store c.run_invocation.new.left c.run_invocation.new.turns c.run_invocation.new.machine r.event r.goes c.in-Ok.halt r.halts n e

pub returns-in-Ok-clause-falls : goal.returns-in-Ok-clause-falls
returns-in-Ok-clause-falls g c =
    let r : RunsTo IsInvocationHalt c.args.store.now c.args.left.now c.args.turns.now c.args.machine c.run_invocation.new.store c.run_invocation.new.left c.run_invocation.new.turns c.run_invocation.new.machine c.in-Ok.halt = rw c.in-Ok.is at c.run_invocation.ensures in
    invocation_falls c.args.store.now c.args.left.now c.args.turns.now c.args.machine c.run_invocation.new.store c.run_invocation.new.left c.run_invocation.new.turns c.run_invocation.new.machine r.event r.goes c.in-Ok.halt r.halts r.falls
