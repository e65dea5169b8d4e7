use Rattle.lua_code.specs.LuaMeaningValues.{text_in}
use Rattle.lua_code.specs.LuaSlotsCallBacks.{string_given}
use Rattle.lua_state.specs.LuaStackLists.{given_values}
use Rattle.lua_state.proofs.LuaStackOpenings.{first_of}
use Rattle.lua_state.specs.Seen.{slots_of, frames_of}
use Rattle.lua_acts.proofs.Lists.{with_first}
use Rattle.lua_acts.proofs.strings.string_answer.Goals as goal

pub string_given-requires-clause-value : goal.string_given-requires-clause-value
string_given-requires-clause-value c = first_of c.args.store.now (given_values c.in-Goes.given) c.first-value.result c.first-value.ensures (rw c.in-Goes.is at c.requires.outcome)

pub returns-in_ok-turn-in-Goes : goal.returns-in_ok-turn-in-Goes
returns-in_ok-turn-in-Goes c = rw c.in-Goes.is
    (with_first c.args.store.now c.string_given.new.store c.args.state.now c.args.state.now c.args.left.now c.string_given.new.left c.in_ok-turn-in-Goes.turn (given_values c.in-Goes.given) c.first-value.result
    (λ v. string_given (text_in v) c.args.line (frames_of c.args.store.now c.args.state.now) (slots_of c.args.store.now c.args.state.now)) c.first-value.ensures c.in_ok-turn-in-Goes.ensures)

pub returns-in-Jumps : goal.returns-in-Jumps
returns-in-Jumps c = rw c.in-Jumps.is (c.pass.ensures c.args.left.now)
