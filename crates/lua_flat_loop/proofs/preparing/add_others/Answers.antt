use Rattle.std.proofs.Common.{refl, arith}
use Rattle.lua_flat_loop.proofs.ConstantLaws.{others_go_on, others_end}
use Rattle.lua_flat_loop.proofs.preparing.add_others.Goals as goal

pub loop-constant-init : goal.loop-constant-init
loop-constant-init c = refl

pub loop-constant-preserved : goal.loop-constant-preserved
loop-constant-preserved c = others_go_on c.args.constants.now c.loop-constant.constant-index _ _ _ c.loop-constant.values _ c.loop-constant.invariant c.loop-constant-test.true c.value_of.ensures c.in_ok-push.ensures.ok

pub returns : goal.returns
returns c = others_end c.args.constants.now c.loop-constant.constant-index _ c.loop-constant.values c.loop-constant.invariant (omega (arith, c.loop-constant-test.false))
