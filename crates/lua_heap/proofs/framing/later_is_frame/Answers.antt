-- The law, at the types of the function.
use Rattle.lua_heap.proofs.FrameLaws.{later_is_frame}
use Rattle.lua_heap.proofs.framing.later_is_frame.Goals as goal

pub returns : goal.returns
returns g c = later_is_frame g.X.Content.stands_for
