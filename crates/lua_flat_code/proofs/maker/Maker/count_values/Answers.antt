use Rattle.std.proofs.lemmas.Result.{on_ok_weaker}
use Rattle.lua_flat_code.proofs.LoopLaws.{said_count_by, said_count}
use Rattle.lua_flat_code.proofs.maker.Maker.count_values.Goals as goal

pub returns-in-Some : goal.returns-in-Some
returns-in-Some c = on_ok_weaker c.value-in-Some.result (λ h. said_count_by _ _ _ _ _ _ _ _ _ _ _ _ c.in-Some.is c.deref.ensures c.in_ok-end.ensures.0 c.in_ok-end.ensures.1 c.in_ok-value.ensures c.in_ok-value-2.ensures h) c.value-in-Some.ensures

pub returns-in_ok-from-in-None : goal.returns-in_ok-from-in-None
returns-in_ok-from-in-None c = on_ok_weaker c.emit.result (λ e. said_count _ _ _ _ _ _ _ _ _ _ _ _ c.in-None.is c.in_ok-end.ensures.0 c.in_ok-end.ensures.1 c.in_ok-value.ensures c.in_ok-value-2.ensures c.in_ok-from-in-None.ensures e) c.emit.ensures
