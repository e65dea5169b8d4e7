use Rattle.std.proofs.Common.{subst}
use Rattle.page_tasks.specs.declared.task.Halt.{Halt}
use Rattle.page_tasks.specs.declared.task.Halted.{Halted}
use Rattle.page_tasks.specs.PageGroundGround.{ground_of}
use Rattle.page_driver.specs.Driven.{InProgress}
use Rattle.page_driver.proofs.driving.move_on.Goals as goal

pub hand_over-requires : goal.hand_over-requires
hand_over-requires g c = subst (λ (h : Halt). let x : Halted = record { task = c.args.halted.task; halt = h } in InProgress (ground_of c.args.around.now) c.args.store.now c.args.left.now c.args.turns.now c.args.tower.now x) c.in-Comes.is c.requires

pub invoke-requires : goal.invoke-requires
invoke-requires g c = subst (λ (h : Halt). let x : Halted = record { task = c.args.halted.task; halt = h } in InProgress (ground_of c.args.around.now) c.args.store.now c.args.left.now c.args.turns.now c.args.tower.now x) c.in-Invokes.is c.requires

pub answer_question-requires : goal.answer_question-requires
answer_question-requires g c =
    rw c.into_inner-asked.ensures (subst (λ (h : Halt). let x : Halted = record { task = c.args.halted.task; halt = h } in InProgress (ground_of c.args.around.now) c.args.store.now c.args.left.now c.args.turns.now c.args.tower.now x) c.in-Asks.is c.requires)

pub returns-in-Comes-clause-moves : goal.returns-in-Comes-clause-moves
returns-in-Comes-clause-moves g c = rw c.in-Comes.is c.hand_over.ensures.moves

pub returns-in-Comes-clause-sinks : goal.returns-in-Comes-clause-sinks
returns-in-Comes-clause-sinks g c = rw c.in-Comes.is c.hand_over.ensures.sinks

pub returns-in-Invokes-clause-moves : goal.returns-in-Invokes-clause-moves
returns-in-Invokes-clause-moves g c = rw c.in-Invokes.is c.invoke.ensures.moves

pub returns-in-Invokes-clause-sinks : goal.returns-in-Invokes-clause-sinks
returns-in-Invokes-clause-sinks g c = rw c.in-Invokes.is c.invoke.ensures.sinks

pub returns-in-Asks-clause-moves : goal.returns-in-Asks-clause-moves
returns-in-Asks-clause-moves g c = rw (c.in-Asks.is, ← c.into_inner-asked.ensures) c.answer_question.ensures.moves

pub returns-in-Asks-clause-sinks : goal.returns-in-Asks-clause-sinks
returns-in-Asks-clause-sinks g c = rw (c.in-Asks.is, ← c.into_inner-asked.ensures) c.answer_question.ensures.sinks
