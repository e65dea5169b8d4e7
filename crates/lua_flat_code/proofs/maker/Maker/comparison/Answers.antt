use Rattle.lua_flat_code.proofs.TestLaws.{said_compare}
use Rattle.lua_flat_code.proofs.maker.Maker.comparison.Goals as goal

pub returns : goal.returns
returns c = λ compares. said_compare _ _ _ _ _ c.args.op _ _ _ _ _ _ _ _ _ _ compares c.in_ok-begin.ensures c.in_ok-a.ensures c.in_ok-b.ensures c.in_ok-jump.ensures.0 c.in_ok-jump.ensures.1
