use Rattle.std.proofs.lemmas.Result.{on_ok_weaker}
use Rattle.lua_flat_code.proofs.TestLaws.{said_on, said_falls}
use Rattle.lua_flat_code.proofs.maker.Maker.test_last.Goals as goal

pub returns-then-goes_on : goal.returns-then-goes_on
returns-then-goes_on c = on_ok_weaker c.push.result (λ e. said_on _ _ _ _ _ _ _ _ _ c.if-goes_on.true c.in_ok-jump.ensures e) c.push.ensures.ok

pub returns-else-goes_on : goal.returns-else-goes_on
returns-else-goes_on c = on_ok_weaker c.push-else-goes_on.result (λ e. said_falls _ _ _ _ _ _ _ _ _ c.if-goes_on.false c.in_ok-jump.ensures e) c.push-else-goes_on.ensures.ok
