use Rattle.std.proofs.lemmas.Result.{on_ok_weaker}
use Rattle.lua_flat_code.proofs.TestLaws.{said_true, said_tested}
use Rattle.lua_flat_code.proofs.maker.Maker.condition.Goals as goal

pub returns-then-is_true : goal.returns-then-is_true
returns-then-is_true c = on_ok_weaker c.begin.result (λ e. said_true _ _ _ _ _ (c.is_true.ensures c.if-is_true.true) e) c.begin.ensures

pub returns : goal.returns
returns c = on_ok_weaker c.land.result (λ led. said_tested _ _ _ _ _ _ _ _ _ c.new-hits.ensures c.in_ok-test.ensures led) c.land.ensures
