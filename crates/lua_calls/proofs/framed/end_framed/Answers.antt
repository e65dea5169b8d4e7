use Rattle.std.proofs.Common.{refl}
use Rattle.lua_calls.proofs.framed.end_framed.Goals as goal

pub returns-in-Ok : goal.returns-in-Ok
returns-in-Ok c = rw c.in-Ok.is c.give_answer.ensures

pub returns-in_ok-turn-in-Err : goal.returns-in_ok-turn-in-Err
returns-in_ok-turn-in-Err c = rw c.in-Err.is (refl, c.in_ok-turn-in-Err.ensures)
