use Rattle.page_tasks.specs.Calls.{RunsTo}
use Rattle.page_tasks.specs.Going.{IsLoadHalt}
use Rattle.page_tasks.proofs.Halting.{load_halts, load_goes, load_falls}
use Rattle.page_tasks.proofs.going.go_load.Goals as goal

pub run_load-requires-clause-of : goal.run_load-requires-clause-of
run_load-requires-clause-of g c = c.requires.of.0

pub run_load-requires-clause-calls : goal.run_load-requires-clause-calls
run_load-requires-clause-calls g c = c.requires.back.calls

pub returns-in-Ok-clause-halts : goal.returns-in-Ok-clause-halts
returns-in-Ok-clause-halts g c =
    let r : RunsTo IsLoadHalt c.args.store.now c.args.left.now c.args.turns.now c.args.machine c.run_load.new.store c.run_load.new.left c.run_load.new.turns c.run_load.new.machine c.in-Ok.halt = rw c.in-Ok.is at c.run_load.ensures in
    load_halts c.args.store.now c.args.left.now c.args.turns.now c.args.machine c.run_load.new.store c.run_load.new.left c.run_load.new.turns c.run_load.new.machine r.event r.goes c.args.begun c.in-Ok.halt c.requires.of.1 r.halts

pub returns-in-Ok-clause-goes : goal.returns-in-Ok-clause-goes
returns-in-Ok-clause-goes g c = λ n e.
    let r : RunsTo IsLoadHalt c.args.store.now c.args.left.now c.args.turns.now c.args.machine c.run_load.new.store c.run_load.new.left c.run_load.new.turns c.run_load.new.machine c.in-Ok.halt = rw c.in-Ok.is at c.run_load.ensures in
    load_goes c.args.store.now c.args.left.now c.args.turns.now c.args.machine c.run_load.new.store c.run_load.new.left c.run_load.new.turns c.run_load.new.machine r.event r.goes c.args.begun c.in-Ok.halt r.halts n e

pub returns-in-Ok-clause-falls : goal.returns-in-Ok-clause-falls
returns-in-Ok-clause-falls g c =
    let r : RunsTo IsLoadHalt c.args.store.now c.args.left.now c.args.turns.now c.args.machine c.run_load.new.store c.run_load.new.left c.run_load.new.turns c.run_load.new.machine c.in-Ok.halt = rw c.in-Ok.is at c.run_load.ensures in
    load_falls c.args.store.now c.args.left.now c.args.turns.now c.args.machine c.run_load.new.store c.run_load.new.left c.run_load.new.turns c.run_load.new.machine r.event r.goes c.args.begun c.in-Ok.halt r.halts r.falls
