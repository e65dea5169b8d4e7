use Rattle.std.proofs.lemmas.Result.{on_ok_weaker}
use Rattle.lua_flat_code.proofs.TargetLaws.{begun_variable}
use Rattle.lua_flat_code.proofs.maker.Maker.assign_variable.Goals as goal

pub returns : goal.returns
returns c = on_ok_weaker c.set.result (λ h. begun_variable _ _ _ _ _ _ _ _ _ c.in_ok-target.ensures c.in_ok-from.ensures h) c.set.ensures
