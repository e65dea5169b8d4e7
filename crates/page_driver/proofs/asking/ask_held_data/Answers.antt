use Rattle.std.proofs.Common.{◌-◌, refl}
use Rattle.mw_frame.specs.declared.question.Ask.TheVariants.{Data}
use Rattle.page_meaning.specs.WkBaseDeclaredLeftLeft.{Left}
use Rattle.page_tasks.specs.PageGroundGround.{ground_of}
use Rattle.page_driver.specs.Moving.{asks_with}
use Rattle.page_driver.proofs.MoveSteps.{kept_moves}
use Rattle.page_tasks.proofs.PageGroundKeepLaws.{entry_data}
use Rattle.page_driver.proofs.Drives.{asking_fits, taken_fits}
use Rattle.page_driver.proofs.Sinking.{answered_sinks}
use Rattle.page_driver.proofs.asking.ask_held_data.Goals as goal

-- KEPT
pub serve_kept-requires-clause-of : goal.serve_kept-requires-clause-of
serve_kept-requires-clause-of g c = c.requires.progress.driven.of

pub serve_kept-requires-clause-waits : goal.serve_kept-requires-clause-waits
serve_kept-requires-clause-waits g c = c.requires.progress.driven.halts

pub serve_kept-requires-clause-back : goal.serve_kept-requires-clause-back
serve_kept-requires-clause-back g c = asking_fits (ground_of c.args.around.now) c.args.store.now c.args.left.now c.args.turns.now c.args.tower.now (asks_with c.args.task (Data c.args.title)) (λ n. refl) c.requires.progress

pub serve_kept-requires-clause-data : goal.serve_kept-requires-clause-data
serve_kept-requires-clause-data g c =
    let k = rw c.in-Some.is at c.find_covered.ensures in
    (entry_data c.args.tower.now.keep c.args.title c.in-Some.kept.now c.requires.held.1 c.requires.progress.driven.accounts.keep k.0).1

pub serve_kept-requires-clause-charge : goal.serve_kept-requires-clause-charge
serve_kept-requires-clause-charge g c = (rw c.in-Some.is at c.find_covered.ensures).1

pub serve_kept-requires-clause-height : goal.serve_kept-requires-clause-height
serve_kept-requires-clause-height g c = (rw c.in-Some.is at c.find_covered.ensures).2

pub returns-in-Some-clause-moves : goal.returns-in-Some-clause-moves
returns-in-Some-clause-moves g c =
    let k = rw c.in-Some.is at c.find_covered.ensures in
    kept_moves (ground_of c.args.around.now) c.args.store.now c.args.left.now c.args.turns.now c.args.tower.now c.args.task c.args.title c.in-Some.kept.now c.requires.held.1 c.requires.held.0 k.0 k.1 k.2
    c.serve_kept.new.store c.serve_kept.new.left c.serve_kept.new.turns c.in_ok-halted-in-Some.halted c.in_ok-halted-in-Some.ensures.halts c.in_ok-halted-in-Some.ensures.goes

pub returns-in-Some-clause-sinks : goal.returns-in-Some-clause-sinks
returns-in-Some-clause-sinks g c =
    let after : Left = record c.args.left.now { steps = c.args.left.now.steps - c.in-Some.kept.now.charge } in
    answered_sinks c.args.left.now after c.args.task (Data c.args.title) c.args.task c.args.tower.now c.args.tower.now c.serve_kept.new.left c.in_ok-halted-in-Some.halted (taken_fits c.args.left.now.steps c.in-Some.kept.now.charge) c.in_ok-halted-in-Some.ensures.falls

-- LOADED
pub ask_load-requires-clause-held : goal.ask_load-requires-clause-held
ask_load-requires-clause-held g c = c.requires.held

pub ask_load-requires-clause-short : goal.ask_load-requires-clause-short
ask_load-requires-clause-short g c = rw c.in-None.is at c.find_covered.ensures

pub ask_load-requires-clause-progress : goal.ask_load-requires-clause-progress
ask_load-requires-clause-progress g c = c.requires.progress

pub returns-clause-moves : goal.returns-clause-moves
returns-clause-moves g c = c.ask_load.ensures.moves

pub returns-clause-sinks : goal.returns-clause-sinks
returns-clause-sinks g c = c.ask_load.ensures.sinks
