use Rattle.lua_flat_code.proofs.Handed.{nothing_left}
use Rattle.lua_flat_code.proofs.TargetLaws.{sets_start, sets_step, sets_end}
use Rattle.lua_flat_code.proofs.maker.Maker.set_all.Goals as goal

pub targets-init : goal.targets-init
targets-init c = sets_start _ _ _

pub targets-preserved : goal.targets-preserved
targets-preserved c = sets_step _ _ _ _ _ _ _ _ c.targets.invariant c.in-Some.ensures.cases.0 c.in_ok-set_at.ensures

pub returns : goal.returns
returns c = sets_end _ _ _ _ _ c.targets.invariant (nothing_left _ c.in_default.ensures.cases)
