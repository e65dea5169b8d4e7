use Rattle.std.proofs.Common.{◌≡◌, ◌∙◌, ◌+◌}
use Rattle.std.proofs.lemmas.Result.{on_ok_weaker}
use Rattle.lua_flat_code.proofs.TargetLaws.{said_set_at}
use Rattle.lua_flat_code.proofs.maker.Maker.set_at.Goals as goal

pub returns : goal.returns
returns c = on_ok_weaker c.set.result (λ h. said_set_at _ _ _ _ _ _ _ c.in_ok-behind.ensures.0 c.in_ok-from.ensures.1 c.in_ok-from.ensures.0 h) c.set.ensures
