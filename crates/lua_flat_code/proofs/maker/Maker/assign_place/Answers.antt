use Rattle.std.proofs.lemmas.Result.{on_ok_weaker}
use Rattle.lua_flat_code.proofs.TargetLaws.{said_place, begun_variable}
use Rattle.lua_flat_code.proofs.maker.Maker.assign_place.Goals as goal

pub returns-in-Register : goal.returns-in-Register
returns-in-Register c = on_ok_weaker c.assign_plain.result (λ h. said_place _ _ _ _ _ _ c.in-Register.is h) c.assign_plain.ensures

pub returns-in_ok-from-in_default : goal.returns-in_ok-from-in_default
returns-in_ok-from-in_default c = on_ok_weaker c.set.result (λ h. begun_variable _ _ _ _ _ _ _ _ _ c.in_ok-target-in_default.ensures c.in_ok-from-in_default.ensures h) c.set.ensures
