use Rattle.lua_store.proofs.Later.{node_of-later, node-later}
use Rattle.lua_store.proofs.laws.nodes_stay.Goals as goal

pub returns : goal.returns
returns c = λ s t x l h. (node_of-later s t l x h, node-later s t l x h)
