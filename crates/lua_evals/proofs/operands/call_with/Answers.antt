use Rattle.std.proofs.lemmas.Result.{IfOk-weaker}
use Rattle.std.proofs.Common.{◌∙◌, refl, sym, ap}
use Rattle.lua_operators.specs.LuaStoreSeen.{seen}
use Rattle.std.specs.Prelude.{Some}
use Rattle.lua_state.specs.LuaSlotsCalls.{call}
use Rattle.lua_operators.specs.LuaStackSeen.{values_seen}
use Rattle.lua_state.specs.Seen.{slots_of, frames_of}
use Rattle.lua_evals.proofs.Ends.{stepped}
use Rattle.lua_evals.proofs.operands.call_with.Goals as goal

pub returns : goal.returns
returns c =
    IfOk-weaker c.finish.result _ _ (λ r e. stepped c.args.store.now c.finish.new.store c.args.state.now c.args.state.now.frames c.args.left.now c.finish.new.left _ c.in_ok-step.step _
    (ap (λ vs. call (seen c.args.store.now.texts c.args.called) (values_seen c.args.store.now.texts vs) (Some c.args.line) (frames_of c.args.store.now c.args.state.now) (slots_of c.args.store.now c.args.state.now)) (sym c.in_ok-arguments.ensures)
    ∙ c.in_ok-step.ensures.move_ (frames_of c.args.store.now c.args.state.now) (slots_of c.args.store.now c.args.state.now) refl)
    e) c.finish.ensures.makes
