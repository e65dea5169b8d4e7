use Rattle.std.proofs.lemmas.Result.{IfOk-weaker}
use Rattle.std.proofs.Common.{rules, refl, sym}
use Rattle.lua_code.specs.Seen.{expression_seen}
use Rattle.lua_blocks.specs.LuaStateSeen.{slots_of, frames_of, constants_in}
use Rattle.lua_store.proofs.Later.{later-itself}
use Rattle.lua_machine.proofs.Moves.{as_move, begins_with_node, step_paid, mark_counted}
use Rattle.lua_machine.proofs.moving.begin_expression.Goals as goal

pub returns : goal.returns
returns g c = rw c.tick.ensures
    (IfOk-weaker c.evaluate.result _ _
    (λ r e. as_move c.args.store.now c.args.state.now c.args.left.now c.args.turns.now c.evaluate.new.store c.evaluate.new.state c.evaluate.new.left _ _ _ r
    (sym (begins_with_node (constants_in c.args.store.now c.args.state.now) (expression_seen c.args.expression.now) (frames_of c.args.store.now c.args.state.now) (slots_of c.args.store.now c.args.state.now)))
    (step_paid c.args.store.now c.args.state.now c.args.left.now c.take_steps.new.self c.args.turns.now c.evaluate.new.store c.evaluate.new.state c.evaluate.new.left _ _ r
    (c.if-not-take_steps.ensures.covered.0 refl) c.take_steps.ensures.rest
    (mark_counted c.args.store.now c.args.state.now c.take_steps.new.self c.args.turns.now c.evaluate.new.store c.evaluate.new.state c.evaluate.new.left _ r e)))
    c.evaluate.ensures)

-- (nothing has changed)
pub returns-then-not-take_steps : goal.returns-then-not-take_steps
returns-then-not-take_steps g c = let same = later-itself c.args.store.now in search rules
