use Rattle.std.proofs.lemmas.Result.{on_ok_weaker}
use Rattle.lua_flat_code.proofs.TargetLaws.{said_entry}
use Rattle.lua_flat_code.proofs.maker.Maker.assign_entry.Goals as goal

pub returns : goal.returns
returns c = on_ok_weaker c.emit_at.result (λ e. said_entry _ _ _ _ _ _ _ _ _ _ _ _ _ _ _ _ _ c.in_ok-begin.ensures c.in_ok-of.ensures c.in_ok-key.ensures c.in_ok-from.ensures e) c.emit_at.ensures
