use Rattle.std.proofs.Common.{◌≡◌, ℕ, ◌+◌, refl, subst}
use Rattle.mw_frame.specs.declared.question.Ask.TheVariants.{Data}
use Rattle.page_tasks.specs.PageGroundGround.{ground_of, TellsHeld}
use Rattle.page_driver.specs.Driven.{MovesOn}
use Rattle.page_driver.specs.Moving.{asks_with, Sinks}
use Rattle.page_meaning.specs.PageRunState.{Gives}
use Rattle.page_meaning.specs.LuaMeaningQuestions.{NoPage}
use Rattle.page_tasks.specs.Going.{Halts, GoesOnWith}
use Rattle.page_tasks.specs.Falling.{Falls}
use Rattle.page_driver.proofs.Nexts.{on_one, on_two}
use Rattle.page_driver.proofs.MoveSteps.{none_moves, no_module, module_lacks}
use Rattle.page_driver.proofs.Drives.{asking_fits, same_fits}
use Rattle.page_driver.proofs.Sinking.{answered_sinks}
use Rattle.page_driver.proofs.asking.ask_known_data.Goals as goal

-- HELD
pub ask_held_data-requires-clause-held : goal.ask_held_data-requires-clause-held
ask_held_data-requires-clause-held g c = subst (TellsHeld c.args.around.now.world.modules.now c.args.title) c.if-held.true c.requires.held

pub ask_held_data-requires-clause-progress : goal.ask_held_data-requires-clause-progress
ask_held_data-requires-clause-progress g c = c.requires.progress

pub returns-then-held-clause-moves : goal.returns-then-held-clause-moves
returns-then-held-clause-moves g c = c.ask_held_data.ensures.moves

pub returns-then-held-clause-sinks : goal.returns-then-held-clause-sinks
returns-then-held-clause-sinks g c = c.ask_held_data.ensures.sinks

-- NOT HELD
pub tell_none-requires-clause-of : goal.tell_none-requires-clause-of
tell_none-requires-clause-of g c = c.requires.progress.driven.of

pub tell_none-requires-clause-waits : goal.tell_none-requires-clause-waits
tell_none-requires-clause-waits g c = c.requires.progress.driven.halts

pub tell_none-requires-clause-back : goal.tell_none-requires-clause-back
tell_none-requires-clause-back g c = asking_fits (ground_of c.args.around.now) c.args.store.now c.args.left.now c.args.turns.now c.args.tower.now (asks_with c.args.task (Data c.args.title)) (λ n. refl) c.requires.progress

pub returns-clause-moves : goal.returns-clause-moves
returns-clause-moves g c =
    let lacks = subst (TellsHeld c.args.around.now.world.modules.now c.args.title) c.if-held.false c.requires.held in
    on_two (MovesOn (ground_of c.args.around.now) c.args.store.now c.args.left.now c.args.turns.now c.args.tower.now (asks_with c.args.task (Data c.args.title)) c.tell_none.new.store c.tell_none.new.left c.tell_none.new.turns c.args.tower.now)
    (Halts c.args.store.now c.args.left.now c.args.turns.now c.args.task c.tell_none.new.store c.tell_none.new.left c.tell_none.new.turns)
    (λ x. (n : ℕ) → c.tell_none.new.turns ≡ c.args.turns.now + n → GoesOnWith c.args.store.now c.args.left.now c.args.task (Gives NoPage) 0 c.tell_none.new.store c.tell_none.new.left n x) c.tell_none.result c.on.result c.on.ensures
    (none_moves (ground_of c.args.around.now) c.args.store.now c.args.left.now c.args.turns.now c.args.tower.now c.args.task (Data c.args.title)
    (λ modules agree. no_module (ground_of c.args.around.now) c.args.store.now c.args.left.now c.args.turns.now c.args.tower.now c.args.task c.args.title modules
    (module_lacks (ground_of c.args.around.now) c.args.store.now c.args.left.now c.args.turns.now c.args.tower.now c.args.task c.args.title modules agree lacks))
    c.tell_none.new.store c.tell_none.new.left c.tell_none.new.turns) c.tell_none.ensures.halts c.tell_none.ensures.goes

pub returns-clause-sinks : goal.returns-clause-sinks
returns-clause-sinks g c =
    on_one (Sinks c.args.left.now c.args.tower.now (asks_with c.args.task (Data c.args.title)) c.tell_none.new.left c.args.tower.now) (Falls c.args.left.now c.args.task c.tell_none.new.left) c.tell_none.result c.on.result c.on.ensures
    (λ x falls. answered_sinks c.args.left.now c.args.left.now c.args.task (Data c.args.title) c.args.task c.args.tower.now c.args.tower.now c.tell_none.new.left x (same_fits c.args.left.now.steps) falls) c.tell_none.ensures.falls
