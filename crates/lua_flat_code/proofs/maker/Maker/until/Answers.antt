use Rattle.std.proofs.lemmas.Result.{on_ok_weaker}
use Rattle.lua_flat_code.proofs.LoopLaws.{said_until}
use Rattle.lua_flat_code.proofs.maker.Maker.until.Goals as goal

pub returns : goal.returns
returns c = on_ok_weaker c.lead_all.result (λ led. said_until _ _ _ _ _ _ _ _ _ _ _ c.new-hits.ensures c.new-misses.ensures c.in_ok-test.ensures c.in_ok-land.ensures led) c.lead_all.ensures
