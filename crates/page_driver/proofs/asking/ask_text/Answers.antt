use Rattle.mw_frame.specs.declared.question.Ask.TheVariants.{Preprocess}
use Rattle.page_tasks.specs.PageGroundGround.{ground_of}
use Rattle.page_tasks.proofs.Passing.{if_ok}
use Rattle.page_driver.specs.Driven.{MovesOn, StartsOn}
use Rattle.page_driver.specs.Moving.{asks_with, GoesDown, Sinks}
use Rattle.page_driver.proofs.MoveSteps.{text_starts}
use Rattle.page_driver.proofs.Drives.{above_starts, above_moves}
use Rattle.page_driver.proofs.Sinking.{answered_on}
use Rattle.page_driver.proofs.asking.ask_text.Goals as goal

pub go_above-requires : goal.go_above-requires
go_above-requires g c =
    above_starts (ground_of c.args.around.now) c.args.store.now c.args.left.now c.args.turns.now c.args.tower.now c.args.task (asks_with c.args.task (Preprocess c.args.scene c.args.text)) c.args.store.now c.in_ok-inner.inner c.push_task.new.tower c.in_ok-push_task.ensures
    (λ root first start d. text_starts (ground_of c.args.around.now) c.args.store.now c.args.left.now c.args.turns.now c.args.tower.now c.args.task c.args.scene c.args.text c.in_ok-inner.inner (c.in_ok-inner.ensures c.args.store.now) root first start d) c.requires

pub returns-clause-moves : goal.returns-clause-moves
returns-clause-moves g c =
    if_ok (StartsOn (ground_of c.args.around.now) c.args.store.now c.args.left.now c.args.turns.now c.push_task.new.tower c.in_ok-inner.inner c.go_above.new.store c.go_above.new.left c.go_above.new.turns c.push_task.new.tower)
    (MovesOn (ground_of c.args.around.now) c.args.store.now c.args.left.now c.args.turns.now c.args.tower.now (asks_with c.args.task (Preprocess c.args.scene c.args.text)) c.go_above.new.store c.go_above.new.left c.go_above.new.turns c.push_task.new.tower) c.go_above.result
    (above_moves (ground_of c.args.around.now) c.args.store.now c.args.left.now c.args.turns.now c.args.tower.now c.args.task (asks_with c.args.task (Preprocess c.args.scene c.args.text)) c.args.store.now c.in_ok-inner.inner c.push_task.new.tower c.in_ok-push_task.ensures
    (λ root first start d. text_starts (ground_of c.args.around.now) c.args.store.now c.args.left.now c.args.turns.now c.args.tower.now c.args.task c.args.scene c.args.text c.in_ok-inner.inner (c.in_ok-inner.ensures c.args.store.now) root first start d) c.go_above.new.store c.go_above.new.left c.go_above.new.turns) c.go_above.ensures.on

pub returns-clause-sinks : goal.returns-clause-sinks
returns-clause-sinks g c =
    if_ok (GoesDown c.args.left.now c.in_ok-inner.inner c.go_above.new.left) (Sinks c.args.left.now c.args.tower.now (asks_with c.args.task (Preprocess c.args.scene c.args.text)) c.go_above.new.left c.push_task.new.tower) c.go_above.result
    (answered_on c.args.left.now c.args.task (Preprocess c.args.scene c.args.text) c.in_ok-inner.inner c.args.tower.now c.push_task.new.tower c.go_above.new.left) c.go_above.ensures.falls
