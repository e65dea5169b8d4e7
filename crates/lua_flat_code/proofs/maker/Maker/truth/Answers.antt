use Rattle.lua_flat_code.proofs.TestLaws.{said_truth}
use Rattle.lua_flat_code.proofs.maker.Maker.truth.Goals as goal

pub returns : goal.returns
returns c = said_truth _ _ _ _ _ _ _ _ _ c.in_ok-a.ensures c.in_ok-jump.ensures.0 c.in_ok-jump.ensures.1
