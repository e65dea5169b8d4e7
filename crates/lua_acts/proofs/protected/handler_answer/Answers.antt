use Rattle.std.specs.Prelude.{◌∷◌, [], false}
use Rattle.lua_code.specs.LuaHeapValue as kind
use Rattle.lua_state.specs.LuaSlotsErrors.{gives}
use Rattle.lua_state.specs.LuaStackLists.{given_values}
use Rattle.lua_state.proofs.LuaStackOpenings.{first_of}
use Rattle.lua_state.specs.Seen.{slots_of, frames_of}
use Rattle.lua_acts.proofs.Lists.{with_first}
use Rattle.lua_acts.proofs.protected.handler_answer.Goals as goal

pub failed-requires-clause-value : goal.failed-requires-clause-value
failed-requires-clause-value c = first_of c.args.store.now (given_values c.in-Goes.given) c.first-value.result c.first-value.ensures (rw c.in-Goes.is at c.requires.outcome)

pub returns-in_ok-turn-in-Goes : goal.returns-in_ok-turn-in-Goes
returns-in_ok-turn-in-Goes c = λ l. rw c.in-Goes.is
    (with_first c.args.store.now c.args.store.now c.args.state.now c.args.state.now l l c.in_ok-turn-in-Goes.turn (given_values c.in-Goes.given) c.first-value.result
    (λ v. gives (kind.Truth false ∷ v ∷ []) (frames_of c.args.store.now c.args.state.now) (slots_of c.args.store.now c.args.state.now)) c.first-value.ensures (c.in_ok-turn-in-Goes.ensures l))

pub returns-in-Jumps : goal.returns-in-Jumps
returns-in-Jumps c = λ l. rw c.in-Jumps.is (c.caught_twice.ensures l)
