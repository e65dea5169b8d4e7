use Rattle.std.proofs.Common.{◌∙◌, ap, sym}
use Rattle.lua_basic.specs.LuaStoreSeen.{seen}
use Rattle.lua_code.specs.LuaSlotsCalls as machine
use Rattle.lua_stack.specs.Seen.{values_seen}
use Rattle.lua_arms.specs.Steps.{step_seen}
use Rattle.lua_arms.proofs.Choices.{enacted_first_at}
use Rattle.lua_arms.proofs.setting.set_link.Goals as goal

pub returns-then-is_function-clause-move_ : goal.returns-then-is_function-clause-move_
returns-then-is_function-clause-move_ c = λ fs s in_progress tally h.
    enacted_first_at _ _ _ (λ z. step_seen c.args.store.now c.in_ok-step.step fs z) c.args.store.now.heap s _ (c.if-is_function.ensures c.args.store.now.texts)
    (ap (λ vs. machine.call (seen c.args.store.now.texts c.args.handler) (values_seen c.args.store.now.texts vs) c.args.line fs s) (sym c.in_ok-arguments.ensures) ∙ c.in_ok-step.ensures.move_ fs s h) h
