use Rattle.std.proofs.lemmas.Result.{on_ok_weaker}
use Rattle.lua_flat_code.proofs.TargetLaws.{said_target}
use Rattle.lua_flat_code.proofs.maker.Maker.assign_one.Goals as goal

pub returns-in-At : goal.returns-in-At
returns-in-At c = on_ok_weaker c.assign_entry.result (λ h. said_target _ _ _ _ _ _ c.in-At.is h) c.assign_entry.ensures

pub returns-in-Variable : goal.returns-in-Variable
returns-in-Variable c = on_ok_weaker c.assign_place.result (λ h. said_target _ _ _ _ _ _ c.in-Variable.is h) c.assign_place.ensures
