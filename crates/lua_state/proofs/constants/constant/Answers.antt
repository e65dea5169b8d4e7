use Rattle.std.proofs.Common.{◌∙◌, ap}
use Rattle.lua_arms.specs.LuaSlotsCalls.{code_of}
use Rattle.mw_frames.proofs.LuaStoreLater.{later-then}
use Rattle.lua_state.specs.Worlds.{world_seen}
use Rattle.lua_state.proofs.Staying.{codes_later, state_later}
use Rattle.lua_state.proofs.Looking.{with_codes_of}
use Rattle.lua_state.proofs.constants.constant.Goals as goal

pub held_from_now-requires-clause-codes : goal.held_from_now-requires-clause-codes
held_from_now-requires-clause-codes c = codes_later c.args.store.now c.running_source.new.store c.in_ok-source.ensures.later c.args.state.now.codes c.requires.codes

pub returns-clause-text : goal.returns-clause-text
returns-clause-text c = c.in_ok-text.ensures.text ∙ ap (λ title. (code_of ((world_seen c.args.state.now.codes.world).modules title)).constant c.args.number) c.in_ok-source.ensures.title

pub returns-clause-later : goal.returns-clause-later
returns-clause-later c = later-then c.args.store.now c.running_source.new.store c.held_from_now.new.store c.in_ok-source.ensures.later c.in_ok-text.ensures.later

pub returns-clause-heap : goal.returns-clause-heap
returns-clause-heap c = c.in_ok-text.ensures.heap ∙ c.in_ok-source.ensures.heap

pub returns-clause-state : goal.returns-clause-state
returns-clause-state c =
    let later = later-then c.args.store.now c.running_source.new.store c.held_from_now.new.store c.in_ok-source.ensures.later c.in_ok-text.ensures.later in
    with_codes_of c.held_from_now.new.store c.args.state.now c.held_from_now.new.codes (state_later c.args.store.now c.held_from_now.new.store later c.args.state.now c.requires) c.in_ok-text.ensures.codes
