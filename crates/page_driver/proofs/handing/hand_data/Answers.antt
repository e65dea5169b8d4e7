use Rattle.std.proofs.Common.{subst}
use Rattle.page_tasks.specs.declared.task.Task.{Task}
use Rattle.page_tasks.specs.declared.task.Reply.TheVariants.{Data}
use Rattle.page_tasks.specs.PageGroundGround.{ground_of}
use Rattle.page_driver.specs.Driven.{InProgress}
use Rattle.page_driver.specs.Moving.{comes_with, tower_with}
use Rattle.page_driver.proofs.handing.hand_data.Goals as goal

pub hand_loaded-requires : goal.hand_loaded-requires
hand_loaded-requires g c = subst (λ (t : Task). InProgress (ground_of c.args.around.now) c.args.store.now c.args.left.now c.args.turns.now (tower_with c.args.waiting c.args.tower.now) (comes_with t (Data c.args.given))) c.in-Load.is c.requires

pub returns-clause-moves : goal.returns-clause-moves
returns-clause-moves g c = rw c.in-Load.is c.hand_loaded.ensures.moves

pub returns-clause-sinks : goal.returns-clause-sinks
returns-clause-sinks g c = rw c.in-Load.is c.hand_loaded.ensures.sinks

pub returns-clause-numbers : goal.returns-clause-numbers
returns-clause-numbers g c = c.hand_loaded.ensures.numbers
