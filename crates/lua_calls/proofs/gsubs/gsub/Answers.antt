use Rattle.std.proofs.Common.{◌∙◌}
use Rattle.lua_gsubs.specs.LuaMeaningGsub.{gsub_form}
use Rattle.lua_modules.proofs.LuaStateStaying.{state_later}
use Rattle.lua_gsubs.specs.Table.{alphabet_of}
use Rattle.lua_modules.specs.LuaStackSeen.{values_seen}
use Rattle.lua_calls.proofs.Beginning.{begun_makes}
use Rattle.lua_calls.proofs.gsubs.gsub.Goals as goal

-- These answers were not checked yet: the names of goals are guesses.
pub go_from-requires-clause-state : goal.go_from-requires-clause-state
go_from-requires-clause-state c = state_later c.args.store.now c.gsub_begin-begun.new.store c.gsub_begin-begun.ensures.later c.args.state.now c.requires.state

pub returns : goal.returns
returns c =
    let s = c.args.store.now in
    begun_makes s c.gsub_begin-begun.new.store c.go_from.new.store c.args.state.now c.go_from.new.state c.args.left.now c.gsub_begin-begun.new.left c.go_from.new.left c.args.line c.in_ok-turn.turn c.requires.state c.gsub_begin-begun.ensures.later
    (gsub_form (alphabet_of c.args.function) (values_seen s.texts c.args.arguments) s.heap) c.gsub_begin-begun.result (rw (c.as_slice.ensures ∙ c.into_list-list.ensures) at c.gsub_begin-begun.ensures.begun) c.in_ok-turn.ensures
