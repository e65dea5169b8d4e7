use Rattle.lua_state.specs.Worlds.{world_seen}
use Rattle.lua_state.proofs.codes.Codes.hold.Goals as goal

pub returns-in_ok-put-in-Some-clause-codes : goal.returns-in_ok-put-in-Some-clause-codes
returns-in_ok-put-in-Some-clause-codes c = λ s h k. record { all = h.all; recent = h.recent; held = c.in_ok-put-in-Some.ensures (world_seen c.args.self.now.world) s h.held k }
