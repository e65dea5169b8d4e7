use Rattle.std.proofs.lemmas.Result.{on_ok_weaker}
use Rattle.lua_flat_code.proofs.StatementLaws.{said_returned_one}
use Rattle.lua_flat_code.proofs.maker.Maker.give_plain.Goals as goal

pub returns : goal.returns
returns c = on_ok_weaker c.emit.result (λ e free. said_returned_one free _ _ _ _ _ _ c.in_ok-begin.ensures c.in_ok-from.ensures c.in_ok-count.ensures e) c.emit.ensures
