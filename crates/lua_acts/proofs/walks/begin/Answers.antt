use Rattle.std.proofs.Common.{◌∙◌}
use Rattle.std.specs.Prelude.{◌∷◌, []}
use Rattle.lua_code.specs.LuaHeapValue as kind
use Rattle.lua_state.specs.LuaStoreSeen.{seen}
use Rattle.lua_state.specs.LuaSlotsErrors.{gives}
use Rattle.lua_state.specs.Seen.{slots_of, frames_of}
use Rattle.lua_state.proofs.Staying.{state_later}
use Rattle.lua_acts.proofs.Refusing.{argument_found, argument_refused}
use Rattle.lua_acts.proofs.walks.begin.Goals as goal

pub returns-in-Ok : goal.returns-in-Ok
returns-in-Ok c =
    argument_found c.args.store.now c.a_table.new.store c.a_table.new.store c.args.state.now c.args.left.now c.args.left.now c.args.line _ c.in-Ok.table.at c.in_ok-turn-in-Ok.turn
    (λ y t. gives (kind.Builtin c.args.walked.0 ∷ kind.Table t ∷ seen y.texts c.args.walked.1 ∷ []) (frames_of y c.args.state.now) (slots_of y c.args.state.now))
    (rw (c.as_slice.ensures ∙ c.into_list-list.ensures) at c.in-Ok.ensures.found) c.in-Ok.ensures.same (c.in_ok-turn-in-Ok.ensures c.args.left.now)

pub returns : goal.returns
returns c =
    argument_refused c.args.store.now c.a_table.new.store c.refuse.new.store c.args.state.now c.args.left.now c.refuse.new.left c.args.line _ c.in-Err.stop c.in_ok-turn-in-Err.turn _
    c.requires.state c.in-Err.ensures.later (rw (c.as_slice.ensures ∙ c.into_list-list.ensures) at c.in-Err.ensures.refused) c.in_ok-turn-in-Err.ensures

pub refuse-requires-clause-state : goal.refuse-requires-clause-state
refuse-requires-clause-state c = state_later c.args.store.now c.a_table.new.store c.in-Err.ensures.later c.args.state.now c.requires.state
