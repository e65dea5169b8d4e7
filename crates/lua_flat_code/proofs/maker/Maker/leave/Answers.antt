use Rattle.std.proofs.lemmas.Result.{on_ok_weaker}
use Rattle.lua_flat_code.proofs.StatementLaws.{said_left}
use Rattle.lua_flat_code.proofs.maker.Maker.leave.Goals as goal

pub returns : goal.returns
returns c = on_ok_weaker c.push.result (λ e free. said_left free _ _ _ _ c.in_ok-jump.ensures.0 c.in_ok-jump.ensures.1 e) c.push.ensures.ok
