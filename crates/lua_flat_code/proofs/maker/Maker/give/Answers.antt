use Rattle.std.proofs.lemmas.Result.{on_ok_weaker}
use Rattle.lua_flat_code.proofs.StatementLaws.{said_returned, returned_as}
use Rattle.lua_flat_code.proofs.maker.Maker.give.Goals as goal

pub returns-in-Some : goal.returns-in-Some
returns-in-Some c = on_ok_weaker c.give_plain.result (λ h. returned_as _ _ _ _ _ c.in-Some.ensures (h c.args.free)) c.give_plain.ensures

pub returns-in_ok-count-in-None : goal.returns-in_ok-count-in-None
returns-in_ok-count-in-None c = on_ok_weaker c.emit.result (λ e. said_returned _ _ _ _ _ _ c.in_ok-count-in-None.ensures e) c.emit.ensures
