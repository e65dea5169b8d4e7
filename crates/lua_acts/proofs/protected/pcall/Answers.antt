use Rattle.std.proofs.Common.{None}
use Rattle.std.specs.Prelude.{◌∷◌}
use Rattle.lua_code.specs.LuaMeaningPending.{PcallWaits}
use Rattle.lua_state.specs.LuaSlotsCalls.{call}
use Rattle.lua_state.specs.LuaSlotsPoints.{Waits}
use Rattle.lua_state.proofs.LuaStackOpenings.{first_of}
use Rattle.lua_state.specs.Seen.{slots_of, frames_of}
use Rattle.lua_acts.proofs.Lists.{rest_of, with_first_and_rest}
use Rattle.lua_acts.proofs.protected.pcall.Goals as goal

pub call_and_wait-requires-clause-called : goal.call_and_wait-requires-clause-called
call_and_wait-requires-clause-called c = first_of c.args.store.now c.args.arguments c.take_first-called.result c.take_first-called.ensures.first c.requires.arguments

pub call_and_wait-requires-clause-arguments : goal.call_and_wait-requires-clause-arguments
call_and_wait-requires-clause-arguments c = rest_of c.args.store.now c.args.arguments c.take_first-called.new.self c.take_first-called.ensures.rest c.requires.arguments

pub returns : goal.returns
returns c =
    with_first_and_rest c.args.store.now c.call_and_wait.new.store c.args.state.now c.call_and_wait.new.state c.args.left.now c.call_and_wait.new.left c.in_ok-turn.turn c.args.arguments c.take_first-called.result c.take_first-called.new.self
    (λ f vs. call f vs None (Waits PcallWaits c.args.line ∷ frames_of c.args.store.now c.args.state.now) (slots_of c.args.store.now c.args.state.now)) c.take_first-called.ensures.first c.take_first-called.ensures.rest c.in_ok-turn.ensures
