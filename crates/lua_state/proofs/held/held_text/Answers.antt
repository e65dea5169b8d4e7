use Rattle.lua_state.proofs.Holding.{of_constant}
use Rattle.lua_state.proofs.held.held_text.Goals as goal

pub returns-in-Some : goal.returns-in-Some
returns-in-Some c = λ w s all. of_constant w s c.in-Some.one c.args.source c.args.number c.text_of.result c.text_of.ensures (rw c.in-Some.is at (c.held_at.ensures w s all))
