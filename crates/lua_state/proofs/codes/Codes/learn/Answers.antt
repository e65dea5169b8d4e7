use Rattle.lua_state.specs.Worlds.{world_seen}
use Rattle.lua_state.proofs.codes.Codes.learn.Goals as goal

pub returns-clause-codes : goal.returns-clause-codes
returns-clause-codes c = λ s h k. c.remember.ensures.codes s (record { all = c.in_ok-note.ensures (world_seen c.args.self.now.world) s h.all k; recent = h.recent; held = h.held }) k
