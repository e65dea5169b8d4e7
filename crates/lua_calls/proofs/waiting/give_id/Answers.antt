use Rattle.std.proofs.Common.{subst}
use Rattle.lua_acts.specs.LuaSlotsCallBacks.{gives_text}
use Rattle.lua_modules.specs.LuaStateMakes.{Makes}
use Rattle.lua_modules.specs.LuaStateSeen.{slots_of, frames_of}
use Rattle.lua_calls.proofs.waiting.give_id.Goals as goal

pub returns : goal.returns
returns c =
    subst (λ b. Makes c.args.store.now c.args.state.now c.args.left.now c.give_text.new.store c.args.state.now c.give_text.new.left (gives_text b (frames_of c.args.store.now c.args.state.now) (slots_of c.args.store.now c.args.state.now)) c.in_ok-turn.turn)
    c.bytes-bytes.ensures c.in_ok-turn.ensures
