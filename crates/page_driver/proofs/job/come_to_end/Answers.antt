use Rattle.page_meaning.specs.LuaMeaningStart.{Invoke}
use Rattle.page_meaning.specs.Tasks.{Running}
use Rattle.page_tasks.specs.PageGroundGround.{ground_of}
use Rattle.page_tasks.proofs.Passing.{if_ok}
use Rattle.page_driver.specs.declared.tower.Tower.{Tower}
use Rattle.page_driver.specs.Driven.{Expanded, ComesTo}
use Rattle.page_driver.proofs.Whole.{first_number, starting_job, job_expanded}
use Rattle.page_driver.proofs.job.come_to_end.Goals as goal

pub begin_invocation-requires : goal.begin_invocation-requires
begin_invocation-requires g c = c.requires.names

pub drive-requires : goal.drive-requires
drive-requires g c =
    let started : Tower = record c.args.tower.now { numbers = c.start.new.self } in
    let n = first_number c.args.store.now c.start.new.store c.args.tower.now.numbers c.start.new.self c.requires.fresh c.requires.numbers c.in_ok-start.ensures.numbers c.in_ok-start.ensures.store in
    starting_job (ground_of c.args.around.now) c.args.job c.start.new.store c.begin_invocation.new.store c.args.left.now c.args.turns.now started c.in_ok-root.root c.in_ok-root.ensures.begins c.requires.stack c.requires.keep c.requires.charges n c.requires.fits

pub returns : goal.returns
returns g c =
    let w = ground_of c.args.around.now in
    let started : Tower = record c.args.tower.now { numbers = c.start.new.self } in
    let n = first_number c.args.store.now c.start.new.store c.args.tower.now.numbers c.start.new.self c.requires.fresh c.requires.numbers c.in_ok-start.ensures.numbers c.in_ok-start.ensures.store in
    if_ok (ComesTo w c.begin_invocation.new.store c.args.left.now c.args.turns.now started c.in_ok-root.root c.drive.new.store c.drive.new.left c.drive.new.turns c.drive.new.tower)
    (Expanded w (Running (Invoke c.args.job)) c.args.left.now c.args.turns.now c.drive.new.store c.drive.new.left c.drive.new.turns c.drive.new.tower) c.drive.result
    (job_expanded w c.args.job c.start.new.store c.begin_invocation.new.store c.args.left.now c.args.turns.now started c.in_ok-root.root c.in_ok-root.ensures.begins c.requires.stack c.requires.keep c.requires.charges n c.requires.fits c.drive.new.store c.drive.new.left c.drive.new.turns c.drive.new.tower) c.drive.ensures
