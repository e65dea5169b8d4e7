use Rattle.lua_state.specs.Worlds.{world_seen}
use Rattle.lua_state.proofs.codes.Codes.find.Goals as goal

pub returns-in-Some : goal.returns-in-Some
returns-in-Some c = λ s h. rw c.in-Some.is at (c.recent_module.ensures (world_seen c.args.self.now.world) s h.recent)

pub returns-in-None : goal.returns-in-None
returns-in-None c = λ s h. c.known_module.ensures (world_seen c.args.self.now.world) s h.all
