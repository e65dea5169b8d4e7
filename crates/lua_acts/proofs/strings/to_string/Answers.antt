use Rattle.lua_code.specs.LuaSlotsCallBacks.{to_string_of}
use Rattle.lua_state.proofs.LuaStackOpenings.{first_of}
use Rattle.lua_state.specs.Seen.{slots_of, frames_of}
use Rattle.lua_acts.proofs.Lists.{with_first}
use Rattle.lua_acts.proofs.strings.to_string.Goals as goal

pub string_of-requires-clause-value : goal.string_of-requires-clause-value
string_of-requires-clause-value c = first_of c.args.store.now c.args.arguments c.first-value.result c.first-value.ensures c.requires.arguments

pub returns : goal.returns
returns c =
    with_first c.args.store.now c.string_of.new.store c.args.state.now c.string_of.new.state c.args.left.now c.string_of.new.left c.in_ok-turn.turn c.args.arguments c.first-value.result
    (λ v. to_string_of v c.args.line (frames_of c.args.store.now c.args.state.now) (slots_of c.args.store.now c.args.state.now)) c.first-value.ensures c.in_ok-turn.ensures
