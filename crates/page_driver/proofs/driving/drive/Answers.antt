use Rattle.page_tasks.specs.PageGroundGround.{ground_of}
use Rattle.page_driver.proofs.MoveSteps.{starts_on}
use Rattle.page_driver.proofs.Drives.{starting_fits, started, start_then}
use Rattle.page_driver.proofs.driving.drive.Goals as goal

pub go_on-requires-clause-of : goal.go_on-requires-clause-of
go_on-requires-clause-of g c = c.requires.starting.of

pub go_on-requires-clause-can : goal.go_on-requires-clause-can
go_on-requires-clause-can g c = c.requires.starting.can

pub go_on-requires-clause-back : goal.go_on-requires-clause-back
go_on-requires-clause-back g c = starting_fits (ground_of c.args.around.now) c.args.store.now c.args.left.now c.args.turns.now c.args.tower.now c.args.task c.requires

pub questions-init : goal.questions-init
questions-init g c = starts_on (ground_of c.args.around.now) c.args.store.now c.args.left.now c.args.turns.now c.args.tower.now c.args.task c.go_on.new.store c.go_on.new.left c.go_on.new.turns c.in_ok-halted.halted c.in_ok-halted.ensures.halts c.in_ok-halted.ensures.goes

pub pass_question-requires : goal.pass_question-requires
pass_question-requires g c = started (ground_of c.args.around.now) c.args.store.now c.args.left.now c.args.turns.now c.args.tower.now c.args.task c.questions.store c.questions.left c.questions.turns c.questions.tower c.questions.halted c.requires c.questions.invariant

pub questions-smaller : goal.questions-smaller
questions-smaller g c = rw c.in-On.is at c.in_ok-moved.ensures.takes

pub questions-preserved : goal.questions-preserved
questions-preserved g c = rw c.in-On.is at (start_then (ground_of c.args.around.now) c.args.store.now c.args.left.now c.args.turns.now c.args.tower.now c.args.task c.questions.store c.questions.left c.questions.turns c.questions.tower c.questions.halted c.pass_question.new.store c.pass_question.new.left c.pass_question.new.turns c.pass_question.new.tower c.in_ok-moved.moved c.questions.invariant c.in_ok-moved.ensures.moves)

pub returns-in-Over : goal.returns-in-Over
returns-in-Over g c = rw c.in-Over.is at (start_then (ground_of c.args.around.now) c.args.store.now c.args.left.now c.args.turns.now c.args.tower.now c.args.task c.questions.store c.questions.left c.questions.turns c.questions.tower c.questions.halted c.pass_question.new.store c.pass_question.new.left c.pass_question.new.turns c.pass_question.new.tower c.in_ok-moved.moved c.questions.invariant c.in_ok-moved.ensures.moves)
