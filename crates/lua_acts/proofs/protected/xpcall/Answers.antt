use Rattle.std.proofs.Common.{None}
use Rattle.std.specs.Prelude.{◌∷◌, []}
use Rattle.lua_code.specs.LuaMeaningPending.{XpcallWaits}
use Rattle.lua_state.specs.LuaSlotsCalls.{call}
use Rattle.lua_state.specs.LuaSlotsPoints.{Waits}
use Rattle.lua_state.proofs.LuaStackOpenings.{first_of}
use Rattle.lua_state.specs.Seen.{slots_of, frames_of}
use Rattle.lua_acts.proofs.Lists.{rest_of, with_first_and_second}
use Rattle.lua_acts.proofs.protected.xpcall.Goals as goal

pub call_and_wait-requires-clause-called : goal.call_and_wait-requires-clause-called
call_and_wait-requires-clause-called c = first_of c.args.store.now c.args.arguments c.take_first-called.result c.take_first-called.ensures.first c.requires.arguments

pub call_and_wait-requires-clause-arguments : goal.call_and_wait-requires-clause-arguments
call_and_wait-requires-clause-arguments c = rw c.new-none.ensures tt

pub call_and_wait-requires-clause-pending : goal.call_and_wait-requires-clause-pending
call_and_wait-requires-clause-pending c =
    first_of c.args.store.now c.take_first-called.new.self c.first-handler.result c.first-handler.ensures (rest_of c.args.store.now c.args.arguments c.take_first-called.new.self c.take_first-called.ensures.rest c.requires.arguments)

pub returns : goal.returns
returns c =
    with_first_and_second c.args.store.now c.call_and_wait.new.store c.args.state.now c.call_and_wait.new.state c.args.left.now c.call_and_wait.new.left c.in_ok-turn.turn c.args.arguments c.take_first-called.result c.take_first-called.new.self c.first-handler.result
    (λ f h. call f [] None (Waits (XpcallWaits h) c.args.line ∷ frames_of c.args.store.now c.args.state.now) (slots_of c.args.store.now c.args.state.now)) c.take_first-called.ensures.first c.take_first-called.ensures.rest c.first-handler.ensures
    (rw c.new-none.ensures at c.in_ok-turn.ensures)
