use Rattle.std.proofs.Common.{◌≡◌, refl, ap}
use Rattle.page_tasks.specs.PageGroundGround.{ground_of}
use Rattle.page_tasks.specs.PageGroundNumbered.{after_start}
use Rattle.page_tasks.proofs.PageGroundNumbering.{start_renumbers}
use Rattle.page_tasks.proofs.Passing.{if_ok, if_any}
use Rattle.page_driver.specs.declared.tower.Tower.{Tower}
use Rattle.page_driver.specs.Driven.{MovesOn, StartsOn}
use Rattle.page_driver.specs.Moving.{invokes_with, GoesDown, Sinks}
use Rattle.page_driver.proofs.Renumbering.{progress_renumbered, moves_renumbered}
use Rattle.page_driver.proofs.MoveSteps.{invocation_starts}
use Rattle.page_driver.proofs.Drives.{above_starts, above_moves}
use Rattle.page_driver.proofs.Sinking.{invoked_on}
use Rattle.page_driver.proofs.stacking.start_invocation.Goals as goal

pub begin_invocation-requires : goal.begin_invocation-requires
begin_invocation-requires g c = rw c.into_inner.ensures c.requires.driven.halts.1

pub go_above-requires : goal.go_above-requires
go_above-requires g c =
    let w = ground_of c.args.around.now in
    let r = start_renumbers c.args.store.now c.args.tower.now.numbers c.push_run.new.store (after_start c.args.tower.now.numbers) refl c.in_ok-push_run.ensures.store in
    let begins = rw c.into_inner.ensures at c.in_ok-inner.ensures.begins in
    above_starts w c.push_run.new.store c.args.left.now c.args.turns.now (record c.args.tower.now { numbers = after_start c.args.tower.now.numbers }) c.args.task (invokes_with c.args.task c.args.job) c.begin_invocation.new.store c.in_ok-inner.inner c.push_run.new.tower c.in_ok-push_run.ensures.tower
    (λ root first start d. invocation_starts w c.push_run.new.store c.args.left.now c.args.turns.now (record c.args.tower.now { numbers = after_start c.args.tower.now.numbers }) c.args.task c.args.job c.in_ok-inner.inner c.begin_invocation.new.store begins root first start d)
    (progress_renumbered w c.args.store.now c.args.left.now c.args.turns.now c.args.tower.now c.push_run.new.store (after_start c.args.tower.now.numbers) r (invokes_with c.args.task c.args.job) c.requires)

pub returns-clause-moves : goal.returns-clause-moves
returns-clause-moves g c =
    let w = ground_of c.args.around.now in
    let r = start_renumbers c.args.store.now c.args.tower.now.numbers c.push_run.new.store (after_start c.args.tower.now.numbers) refl c.in_ok-push_run.ensures.store in
    let begins = rw c.into_inner.ensures at c.in_ok-inner.ensures.begins in
    if_ok (StartsOn w c.begin_invocation.new.store c.args.left.now c.args.turns.now c.push_run.new.tower c.in_ok-inner.inner c.go_above.new.store c.go_above.new.left c.go_above.new.turns c.push_run.new.tower)
    (MovesOn w c.args.store.now c.args.left.now c.args.turns.now c.args.tower.now (invokes_with c.args.task c.args.job) c.go_above.new.store c.go_above.new.left c.go_above.new.turns c.push_run.new.tower) c.go_above.result
    (λ n on. moves_renumbered w c.args.store.now c.args.left.now c.args.turns.now c.args.tower.now c.push_run.new.store (after_start c.args.tower.now.numbers) r (invokes_with c.args.task c.args.job) c.go_above.new.store c.go_above.new.left c.go_above.new.turns c.push_run.new.tower n
    (above_moves w c.push_run.new.store c.args.left.now c.args.turns.now (record c.args.tower.now { numbers = after_start c.args.tower.now.numbers }) c.args.task (invokes_with c.args.task c.args.job) c.begin_invocation.new.store c.in_ok-inner.inner c.push_run.new.tower c.in_ok-push_run.ensures.tower
    (λ root first start d. invocation_starts w c.push_run.new.store c.args.left.now c.args.turns.now (record c.args.tower.now { numbers = after_start c.args.tower.now.numbers }) c.args.task c.args.job c.in_ok-inner.inner c.begin_invocation.new.store begins root first start d) c.go_above.new.store c.go_above.new.left c.go_above.new.turns n on)) c.go_above.ensures.on

pub returns-clause-sinks : goal.returns-clause-sinks
returns-clause-sinks g c =
    if_ok (GoesDown c.args.left.now c.in_ok-inner.inner c.go_above.new.left) (Sinks c.args.left.now c.args.tower.now (invokes_with c.args.task c.args.job) c.go_above.new.left c.push_run.new.tower) c.go_above.result
    (λ n falls. invoked_on c.args.left.now c.args.task c.args.job c.in_ok-inner.inner (record c.args.tower.now { numbers = after_start c.args.tower.now.numbers }) c.push_run.new.tower c.go_above.new.left n c.in_ok-inner.ensures.chances c.in_ok-push_run.ensures.tower falls) c.go_above.ensures.falls

pub returns-clause-numbers : goal.returns-clause-numbers
returns-clause-numbers g c = if_any (λ n. c.push_run.new.tower.numbers ≡ after_start c.args.tower.now.numbers) c.go_above.result (λ n. ap (λ (w : Tower). w.numbers) c.in_ok-push_run.ensures.tower)
