use Rattle.page_tasks.specs.PageGroundGround.{ground_of}
use Rattle.page_tasks.proofs.Passing.{if_ok}
use Rattle.page_driver.specs.Driven.{MovesOn}
use Rattle.page_driver.specs.Moving.{Sinks, TakesSteps}
use Rattle.page_driver.proofs.Drives.{in_progress, one_after_another}
use Rattle.page_driver.proofs.Sinking.{asked_then}
use Rattle.page_driver.proofs.driving.pass_question.Goals as goal

pub move_on-requires : goal.move_on-requires
move_on-requires g c = in_progress (ground_of c.args.around.now) c.args.store.now c.args.left.now c.args.turns.now c.args.tower.now c.args.halted c.move_to_question.new.store c.move_to_question.new.left c.move_to_question.new.turns c.move_to_question.new.tower c.in-On.asking c.requires (rw c.in-On.is at c.in_ok-reached.ensures.moves)

pub returns-in-Over-clause-moves : goal.returns-in-Over-clause-moves
returns-in-Over-clause-moves g c = rw c.in-Over.is at c.in_ok-reached.ensures.moves

pub returns-in-Over-clause-takes : goal.returns-in-Over-clause-takes
returns-in-Over-clause-takes g c = tt

pub returns-in-On-clause-moves : goal.returns-in-On-clause-moves
returns-in-On-clause-moves g c =
    if_ok (MovesOn (ground_of c.args.around.now) c.move_to_question.new.store c.move_to_question.new.left c.move_to_question.new.turns c.move_to_question.new.tower c.in-On.asking c.move_on.new.store c.move_on.new.left c.move_on.new.turns c.move_on.new.tower)
    (MovesOn (ground_of c.args.around.now) c.args.store.now c.args.left.now c.args.turns.now c.args.tower.now c.args.halted c.move_on.new.store c.move_on.new.left c.move_on.new.turns c.move_on.new.tower) c.move_on.result
    (λ n. one_after_another (ground_of c.args.around.now) c.args.store.now c.args.left.now c.args.turns.now c.args.tower.now c.args.halted c.move_to_question.new.store c.move_to_question.new.left c.move_to_question.new.turns c.move_to_question.new.tower c.in-On.asking
    c.move_on.new.store c.move_on.new.left c.move_on.new.turns c.move_on.new.tower n (rw c.in-On.is at c.in_ok-reached.ensures.moves)) c.move_on.ensures.moves

pub returns-in-On-clause-takes : goal.returns-in-On-clause-takes
returns-in-On-clause-takes g c =
    let k = rw c.in-On.is at c.in_ok-reached.ensures.sinks in
    if_ok (Sinks c.move_to_question.new.left c.move_to_question.new.tower c.in-On.asking c.move_on.new.left c.move_on.new.tower) (TakesSteps c.args.left.now c.args.halted c.move_on.new.left) c.move_on.result
    (λ n. asked_then c.args.left.now c.args.halted c.move_to_question.new.left c.move_to_question.new.tower c.in-On.asking c.move_on.new.left c.move_on.new.tower n k.0 k.1) c.move_on.ensures.sinks
