use Rattle.std.proofs.Common.{◌∙◌, ap}
use Rattle.mw_frames.specs.LuaStoreSeen.{StoreView}
use Rattle.lua_state.proofs.constants.looked_up.Goals as goal

pub returns-clause-text : goal.returns-clause-text
returns-clause-text c = c.in_ok-id.ensures.there ∙ c.in_ok-bytes.ensures

pub returns-clause-heap : goal.returns-clause-heap
returns-clause-heap c = ap (λ (x : StoreView). x.heap) c.in_ok-id.ensures.added
