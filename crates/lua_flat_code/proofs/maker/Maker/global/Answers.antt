use Rattle.std.proofs.lemmas.Result.{on_ok_weaker}
use Rattle.lua_flat_code.proofs.ValueLaws.{said_global}
use Rattle.lua_flat_code.proofs.maker.Maker.global.Goals as goal

pub returns : goal.returns
returns c = on_ok_weaker c.emit_at.result (λ e. said_global _ _ _ _ _ _ c.in_ok-begin.ensures e) c.emit_at.ensures
