use Rattle.page_tasks.specs.PageGroundGround.{ground_of}
use Rattle.page_driver.proofs.Drives.{in_progress, one_after_another, same_fits, no_more}
use Rattle.page_driver.specs.Moving.{steps_at}
use Rattle.page_driver.proofs.Sinking.{not_asked}
use Rattle.page_driver.proofs.driving.move_to_question.Goals as goal

pub moves-init : goal.moves-init
moves-init g c = (λ root first start fits d. d, same_fits (steps_at c.args.left.now c.args.halted.halt))

pub move_on-requires : goal.move_on-requires
move_on-requires g c = in_progress (ground_of c.args.around.now) c.args.store.now c.args.left.now c.args.turns.now c.args.tower.now c.args.halted c.moves.store c.moves.left c.moves.turns c.moves.tower c.moves.now c.requires c.moves.invariant.0

pub moves-smaller : goal.moves-smaller
moves-smaller g c = (not_asked c.moves.now.halt _ _ _ _ (rw c.if-asks_lua.false at c.asks_lua.ensures) (rw c.in-On.is at c.in_ok-moved.ensures.sinks)).1

pub moves-preserved : goal.moves-preserved
moves-preserved g c =
    let k = not_asked c.moves.now.halt _ _ _ _ (rw c.if-asks_lua.false at c.asks_lua.ensures) (rw c.in-On.is at c.in_ok-moved.ensures.sinks) in (
      rw c.in-On.is at (one_after_another (ground_of c.args.around.now) c.args.store.now c.args.left.now c.args.turns.now c.args.tower.now c.args.halted c.moves.store c.moves.left c.moves.turns c.moves.tower c.moves.now c.move_on.new.store c.move_on.new.left c.move_on.new.turns c.move_on.new.tower c.in_ok-moved.moved c.moves.invariant.0 c.in_ok-moved.ensures.moves),
      no_more _ _ _ k.0 c.moves.invariant.1,
    )

pub returns-then-asks_lua-clause-moves : goal.returns-then-asks_lua-clause-moves
returns-then-asks_lua-clause-moves g c = c.moves.invariant.0

pub returns-then-asks_lua-clause-sinks : goal.returns-then-asks_lua-clause-sinks
returns-then-asks_lua-clause-sinks g c = (rw c.if-asks_lua.true at c.asks_lua.ensures, c.moves.invariant.1)

pub returns-in-Over-clause-moves : goal.returns-in-Over-clause-moves
returns-in-Over-clause-moves g c = rw c.in-Over.is at (one_after_another (ground_of c.args.around.now) c.args.store.now c.args.left.now c.args.turns.now c.args.tower.now c.args.halted c.moves.store c.moves.left c.moves.turns c.moves.tower c.moves.now c.move_on.new.store c.move_on.new.left c.move_on.new.turns c.move_on.new.tower c.in_ok-moved.moved c.moves.invariant.0 c.in_ok-moved.ensures.moves)

pub returns-in-Over-clause-sinks : goal.returns-in-Over-clause-sinks
returns-in-Over-clause-sinks g c = tt
