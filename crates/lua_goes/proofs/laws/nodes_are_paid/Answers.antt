use Rattle.lua_goes.proofs.Counts.{nodes_are_paid}
use Rattle.lua_goes.proofs.laws.nodes_are_paid.Goals as goal

pub returns : goal.returns
returns c = nodes_are_paid
