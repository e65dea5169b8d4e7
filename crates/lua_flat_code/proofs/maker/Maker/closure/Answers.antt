use Rattle.std.proofs.lemmas.Result.{on_ok_weaker}
use Rattle.lua_flat_code.proofs.ValueLaws.{said_closure}
use Rattle.lua_flat_code.proofs.maker.Maker.closure.Goals as goal

pub returns : goal.returns
returns c = on_ok_weaker c.emit.result (λ e. said_closure _ _ _ _ _ _ _ _ _ c.in_ok-begin.ensures c.in_ok-part.ensures e) c.emit.ensures
