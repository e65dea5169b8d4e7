use Rattle.std.proofs.lemmas.Result.{on_ok_weaker}
use Rattle.lua_flat_code.proofs.Handed.{nothing_left}
use Rattle.lua_flat_code.proofs.ListLaws.{exact_as}
use Rattle.lua_flat_code.proofs.maker.Maker.exact.Goals as goal

pub returns-in-Some : goal.returns-in-Some
returns-in-Some c = on_ok_weaker c.exact_of.result (λ h. exact_as _ _ _ _ _ _ c.in-Some.ensures.cases.0 h) c.exact_of.ensures

pub returns-in-None : goal.returns-in-None
returns-in-None c = on_ok_weaker c.nils.result (λ h. exact_as _ _ _ _ _ _ (nothing_left _ c.in-None.ensures.cases) h) c.nils.ensures
