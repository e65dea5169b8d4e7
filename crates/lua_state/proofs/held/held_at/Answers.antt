use Rattle.lua_state.proofs.Holding.{at_place}
use Rattle.lua_state.proofs.held.held_at.Goals as goal

pub returns-in-Some : goal.returns-in-Some
returns-in-Some c = λ w s all. at_place w s c.args.held.now c.args.at c.in-Some.one (rw c.in-Some.is at c.slot.ensures) all
