use Rattle.std.proofs.Common.{◌≡◌, List, ◌∷◌, refl, sym, ◌∙◌, subst}
use Rattle.page_tasks.specs.declared.task.Task.{Task}
use Rattle.page_tasks.specs.PageGroundGround.{ground_of}
use Rattle.page_tasks.proofs.Passing.{if_ok}
use Rattle.page_driver.specs.Driven.{InProgress, MovesOn}
use Rattle.page_driver.specs.declared.tower.Tower.{Tower}
use Rattle.page_driver.specs.declared.tower.Next.{Next}
use Rattle.page_driver.specs.Moving.{comes_with, after_task, Sinks}
use Rattle.page_driver.proofs.Renumbering.{driven_renumbered, progress_renumbered, moves_renumbered}
use Rattle.page_driver.proofs.Hands.{page_is_expanded}
use Rattle.page_driver.proofs.handing.hand_over.Goals as goal

-- THE PAGE IS EXPANDED
pub returns-in-None-clause-moves : goal.returns-in-None-clause-moves
returns-in-None-clause-moves g c = λ root first start fits d.
    page_is_expanded (ground_of c.args.around.now) root first start c.leave_run.new.store c.args.left.now c.args.turns.now (record c.args.tower.now { numbers = c.leave_run.new.numbers }) (record c.args.tower.now { stack = c.pop.new.self; numbers = c.leave_run.new.numbers }) c.args.task c.args.reply c.in-None.ensures.0 refl refl
    (driven_renumbered (ground_of c.args.around.now) c.args.store.now c.args.left.now c.args.turns.now c.args.tower.now c.leave_run.new.store c.leave_run.new.numbers c.leave_run.ensures.renumbers root first start (comes_with c.args.task c.args.reply) d)

pub returns-in-None-clause-sinks : goal.returns-in-None-clause-sinks
returns-in-None-clause-sinks g c = tt

pub returns-in-None-clause-numbers : goal.returns-in-None-clause-numbers
returns-in-None-clause-numbers g c = c.leave_run.ensures.numbers

-- ONE THAT WAITS is told it
pub hand_down-requires : goal.hand_down-requires
hand_down-requires g c = subst (λ (ts : List Task). InProgress (ground_of c.args.around.now) c.leave_run.new.store c.args.left.now c.args.turns.now (record c.args.tower.now { stack = ts; numbers = c.leave_run.new.numbers }) (comes_with c.args.task c.args.reply)) c.in-Some.ensures
    (progress_renumbered (ground_of c.args.around.now) c.args.store.now c.args.left.now c.args.turns.now c.args.tower.now c.leave_run.new.store c.leave_run.new.numbers c.leave_run.ensures.renumbers (comes_with c.args.task c.args.reply) c.requires)

pub returns-in-Some-clause-moves : goal.returns-in-Some-clause-moves
returns-in-Some-clause-moves g c =
    let moves : List Task → Next → Type 0 = λ ts. let w : Tower = record c.args.tower.now { stack = ts; numbers = c.leave_run.new.numbers } in
    MovesOn (ground_of c.args.around.now) c.leave_run.new.store c.args.left.now c.args.turns.now w (comes_with c.args.task c.args.reply) c.hand_down.new.store c.hand_down.new.left c.hand_down.new.turns c.hand_down.new.tower in
    if_ok (moves (c.in-Some.waiting ∷ c.pop.new.self))
    (MovesOn (ground_of c.args.around.now) c.args.store.now c.args.left.now c.args.turns.now c.args.tower.now (comes_with c.args.task c.args.reply) c.hand_down.new.store c.hand_down.new.left c.hand_down.new.turns c.hand_down.new.tower) c.hand_down.result
    (λ n m. moves_renumbered (ground_of c.args.around.now) c.args.store.now c.args.left.now c.args.turns.now c.args.tower.now c.leave_run.new.store c.leave_run.new.numbers c.leave_run.ensures.renumbers (comes_with c.args.task c.args.reply) c.hand_down.new.store c.hand_down.new.left c.hand_down.new.turns c.hand_down.new.tower n
    (subst (λ (ts : List Task). moves ts n) (sym c.in-Some.ensures) m)) c.hand_down.ensures.moves

pub returns-in-Some-clause-sinks : goal.returns-in-Some-clause-sinks
returns-in-Some-clause-sinks g c =
    let sinks : List Task → Next → Type 0 = λ ts. let w : Tower = record c.args.tower.now { stack = ts } in Sinks c.args.left.now w (comes_with c.args.task c.args.reply) c.hand_down.new.left c.hand_down.new.tower in
    if_ok (sinks (c.in-Some.waiting ∷ c.pop.new.self)) (sinks c.args.tower.now.stack) c.hand_down.result (λ n m. subst (λ (ts : List Task). sinks ts n) (sym c.in-Some.ensures) m) c.hand_down.ensures.sinks

pub returns-in-Some-clause-numbers : goal.returns-in-Some-clause-numbers
returns-in-Some-clause-numbers g c =
    if_ok (λ n. c.hand_down.new.tower.numbers ≡ c.leave_run.new.numbers) (λ n. c.hand_down.new.tower.numbers ≡ after_task c.args.task c.args.tower.now.numbers) c.hand_down.result (λ n e. e ∙ c.leave_run.ensures.numbers) c.hand_down.ensures.numbers
