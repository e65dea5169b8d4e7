use Rattle.std.proofs.lemmas.Result.{IfOk-weaker}
use Rattle.std.proofs.Common.{rules, refl}
use Rattle.lua_store.proofs.Later.{later-itself}
use Rattle.lua_machine.proofs.Moves.{late_step_paid}
use Rattle.lua_machine.proofs.moving.begin_thing.Goals as goal

pub returns : goal.returns
returns g c = IfOk-weaker c.begin.result _ _
    (λ r e. late_step_paid c.args.store.now c.args.state.now c.args.left.now c.take_steps.new.self c.args.turns.now c.begin.new.store c.begin.new.state c.begin.new.left c.begin.new.turns _ r
    (c.if-not-take_steps.ensures.covered.0 refl) c.take_steps.ensures.rest e)
    c.begin.ensures

-- (nothing has changed)
pub returns-then-not-take_steps : goal.returns-then-not-take_steps
returns-then-not-take_steps g c = let same = later-itself c.args.store.now in search rules
