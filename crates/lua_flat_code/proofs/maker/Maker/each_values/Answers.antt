use Rattle.std.proofs.lemmas.Result.{on_ok_weaker}
use Rattle.lua_flat_code.proofs.LoopLaws.{each_said}
use Rattle.lua_flat_code.proofs.maker.Maker.each_values.Goals as goal

pub returns : goal.returns
returns c = on_ok_weaker c.settle.result (λ h. each_said _ _ _ _ _ c.in_ok-exact.ensures h) c.settle.ensures
