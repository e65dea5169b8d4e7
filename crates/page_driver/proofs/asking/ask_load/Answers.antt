use Rattle.std.proofs.Common.{◌≡◌, refl, ap}
use Rattle.mw_frame.specs.declared.question.Ask.TheVariants.{Data}
use Rattle.page_tasks.specs.PageGroundGround.{ground_of}
use Rattle.page_tasks.specs.PageGroundNumbered.{after_start}
use Rattle.page_tasks.proofs.PageGroundNumbering.{start_renumbers}
use Rattle.page_tasks.proofs.Passing.{if_ok, if_any}
use Rattle.page_driver.specs.declared.tower.Tower.{Tower}
use Rattle.page_driver.specs.Driven.{MovesOn, StartsOn}
use Rattle.page_driver.specs.Moving.{asks_with, GoesDown, Sinks}
use Rattle.page_driver.proofs.MoveSteps.{load_starts}
use Rattle.page_driver.proofs.Drives.{above_starts, above_moves}
use Rattle.page_driver.proofs.Renumbering.{progress_renumbered, moves_renumbered}
use Rattle.page_driver.proofs.Sinking.{answered_on}
use Rattle.page_driver.proofs.asking.ask_load.Goals as goal

pub begin_load-requires : goal.begin_load-requires
begin_load-requires g c = c.requires.held.1

pub go_above-requires : goal.go_above-requires
go_above-requires g c =
    let w = ground_of c.args.around.now in
    let r = start_renumbers c.args.store.now c.args.tower.now.numbers c.push_run.new.store (after_start c.args.tower.now.numbers) refl c.in_ok-push_run.ensures.store in
    above_starts w c.push_run.new.store c.args.left.now c.args.turns.now (record c.args.tower.now { numbers = after_start c.args.tower.now.numbers }) c.args.task (asks_with c.args.task (Data c.args.title)) c.begin_load.new.store c.in_ok-inner.inner c.push_run.new.tower c.in_ok-push_run.ensures.tower
    (λ root first start d. load_starts w c.push_run.new.store c.args.left.now c.args.turns.now (record c.args.tower.now { numbers = after_start c.args.tower.now.numbers }) c.args.task c.args.title c.in_ok-inner.inner c.begin_load.new.store c.requires.held.1 c.requires.held.0 c.requires.short c.in_ok-inner.ensures root first start d)
    (progress_renumbered w c.args.store.now c.args.left.now c.args.turns.now c.args.tower.now c.push_run.new.store (after_start c.args.tower.now.numbers) r (asks_with c.args.task (Data c.args.title)) c.requires.progress)

pub returns-clause-moves : goal.returns-clause-moves
returns-clause-moves g c =
    let w = ground_of c.args.around.now in
    let r = start_renumbers c.args.store.now c.args.tower.now.numbers c.push_run.new.store (after_start c.args.tower.now.numbers) refl c.in_ok-push_run.ensures.store in
    if_ok (StartsOn w c.begin_load.new.store c.args.left.now c.args.turns.now c.push_run.new.tower c.in_ok-inner.inner c.go_above.new.store c.go_above.new.left c.go_above.new.turns c.push_run.new.tower)
    (MovesOn w c.args.store.now c.args.left.now c.args.turns.now c.args.tower.now (asks_with c.args.task (Data c.args.title)) c.go_above.new.store c.go_above.new.left c.go_above.new.turns c.push_run.new.tower) c.go_above.result
    (λ n on. moves_renumbered w c.args.store.now c.args.left.now c.args.turns.now c.args.tower.now c.push_run.new.store (after_start c.args.tower.now.numbers) r (asks_with c.args.task (Data c.args.title)) c.go_above.new.store c.go_above.new.left c.go_above.new.turns c.push_run.new.tower n
    (above_moves w c.push_run.new.store c.args.left.now c.args.turns.now (record c.args.tower.now { numbers = after_start c.args.tower.now.numbers }) c.args.task (asks_with c.args.task (Data c.args.title)) c.begin_load.new.store c.in_ok-inner.inner c.push_run.new.tower c.in_ok-push_run.ensures.tower
    (λ root first start d. load_starts w c.push_run.new.store c.args.left.now c.args.turns.now (record c.args.tower.now { numbers = after_start c.args.tower.now.numbers }) c.args.task c.args.title c.in_ok-inner.inner c.begin_load.new.store c.requires.held.1 c.requires.held.0 c.requires.short c.in_ok-inner.ensures root first start d) c.go_above.new.store c.go_above.new.left c.go_above.new.turns n on)) c.go_above.ensures.on

pub returns-clause-sinks : goal.returns-clause-sinks
returns-clause-sinks g c =
    if_ok (GoesDown c.args.left.now c.in_ok-inner.inner c.go_above.new.left) (Sinks c.args.left.now c.args.tower.now (asks_with c.args.task (Data c.args.title)) c.go_above.new.left c.push_run.new.tower) c.go_above.result
    (answered_on c.args.left.now c.args.task (Data c.args.title) c.in_ok-inner.inner (record c.args.tower.now { numbers = after_start c.args.tower.now.numbers }) c.push_run.new.tower c.go_above.new.left) c.go_above.ensures.falls

pub returns-clause-numbers : goal.returns-clause-numbers
returns-clause-numbers g c = if_any (λ n. c.push_run.new.tower.numbers ≡ after_start c.args.tower.now.numbers) c.go_above.result (λ n. ap (λ (w : Tower). w.numbers) c.in_ok-push_run.ensures.tower)
