use Rattle.std.proofs.Common.{◌≡◌, ◌∙◌, ◌++◌, ◌∷◌, refl, arith}
use Rattle.lua_flat_code.specs.Making.{step_of}
use Rattle.lua_flat_code.proofs.FunctionLaws.{mapped_start, mapped_step, mapped_end}
use Rattle.lua_flat_code.proofs.making.steps_of.Goals as goal

pub loop-one-init : goal.loop-one-init
loop-one-init c = mapped_start step_of _ _ c.in_ok-list.ensures

pub loop-one-preserved : goal.loop-one-preserved
loop-one-preserved c = mapped_step step_of _ _ _ _ _ _ c.loop-one.invariant c.loop-one-test.true refl c.in_ok-push.ensures.ok

pub returns : goal.returns
returns c = mapped_end step_of _ _ _ c.loop-one.invariant (omega (arith, c.loop-one-test.false))
