use Rattle.std.proofs.lemmas.Result.{on_ok_weaker}
use Rattle.lua_flat_code.proofs.TargetLaws.{said_one}
use Rattle.lua_flat_code.proofs.maker.Maker.assign.Goals as goal

pub returns-in-Some : goal.returns-in-Some
returns-in-Some c = on_ok_weaker c.assign_one.result (λ h. said_one _ _ _ _ _ _ _ c.in-Some.ensures.0 c.in-Some.ensures.1 h) c.assign_one.ensures
