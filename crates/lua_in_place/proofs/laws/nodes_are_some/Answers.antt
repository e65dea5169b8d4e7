use Rattle.lua_in_place.proofs.Nodes.{nodes_are_some}
use Rattle.lua_in_place.proofs.laws.nodes_are_some.Goals as goal

pub returns : goal.returns
returns c = nodes_are_some
