use Rattle.std.proofs.Common.{subst, true, false}
use Rattle.lua_modules.specs.LuaMeaningFrames.{args_charge}
use Rattle.lua_modules.specs.LuaStateCharges.{Pays}
use Rattle.lua_modules.proofs.LuaStateMaking.{makes_late}
use Rattle.lua_runs.proofs.Parts.{short, costs}
use Rattle.lua_runs.proofs.Starting.{late_costs}
use Rattle.lua_runs.proofs.starts.invoke.Goals as goal

pub returns-then-not-pay : goal.returns-then-not-pay
returns-then-not-pay c =
    makes_late c.args.store.now c.args.store.now c.args.state.now c.args.state.now c.args.left.now c.pay.new.left _ _
    (short c.args.store.now c.args.state.now c.args.left.now c.pay.new.left 1000 _ c.requires.state c.if-not-pay.ensures)

pub returns-then-not-pay_frame : goal.returns-then-not-pay_frame
returns-then-not-pay_frame c =
    makes_late c.args.store.now c.args.store.now c.args.state.now c.args.state.now c.args.left.now c.pay_frame.new.left _ _
    (costs c.args.store.now c.args.store.now c.args.state.now c.args.state.now c.args.left.now c.pay.new.left c.pay_frame.new.left 1000 _ _ c.if-not-pay.ensures
    (short c.args.store.now c.args.state.now c.pay.new.left c.pay_frame.new.left (args_charge c.args.job.scene.args) _ c.requires.state (subst (λ args. Pays (args_charge args) c.pay.new.left c.pay_frame.new.left false) c.as_slice-args.ensures c.if-not-pay_frame.ensures)))

pub returns : goal.returns
returns c =
    late_costs c.args.store.now c.invoke_paid.new.store c.args.state.now c.invoke_paid.new.state c.args.left.now c.pay.new.left c.invoke_paid.new.left 1000 _ _ c.if-not-pay.ensures
    (late_costs c.args.store.now c.invoke_paid.new.store c.args.state.now c.invoke_paid.new.state c.pay.new.left c.pay_frame.new.left c.invoke_paid.new.left (args_charge c.args.job.scene.args) _ _
    (subst (λ args. Pays (args_charge args) c.pay.new.left c.pay_frame.new.left true) c.as_slice-args.ensures c.if-not-pay_frame.ensures) c.in_ok-turn.ensures)
