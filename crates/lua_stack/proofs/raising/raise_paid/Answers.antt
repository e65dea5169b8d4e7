use Rattle.std.proofs.Common.{refl}
use Rattle.lua_stack.proofs.Raises.{raised}
use Rattle.lua_stack.proofs.raising.raise_paid.Goals as goal

pub returns-clause-move_ : goal.returns-clause-move_
returns-clause-move_ c = λ frames of s in_progress tally.
    raised c.args.store.now c.text.new.self frames s in_progress tally c.args.left.now c.take_steps.new.self c.args.message.now c.in_ok-text.text.at
    c.in_ok-text.ensures.later of (c.if-not-take_steps.ensures.covered.0 refl) c.take_steps.ensures.rest c.in_ok-text.ensures.there
