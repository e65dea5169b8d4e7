use Rattle.std.proofs.Common.{◌∙◌}
use Rattle.lua_state.specs.Worlds.{world_seen}
use Rattle.mw_frames.proofs.LuaStoreLater.{later-itself}
use Rattle.lua_state.proofs.Staying.{codes_later}
use Rattle.lua_state.proofs.Holding.{just_found}
use Rattle.lua_state.proofs.constants.held_from_now.Goals as goal

pub looked_up-requires-clause-codes : goal.looked_up-requires-clause-codes
looked_up-requires-clause-codes c = c.turn_to.ensures.codes c.args.store.now c.requires.codes

pub returns-in-Some-clause-of : goal.returns-in-Some-clause-of
returns-in-Some-clause-of c =
    let h = rw c.in-Some.is at (c.held.ensures c.args.store.now (c.turn_to.ensures.codes c.args.store.now c.requires.codes)) in
    h.text_of

pub returns-in-Some-clause-text : goal.returns-in-Some-clause-text
returns-in-Some-clause-text c =
    let h = rw c.in-Some.is at (c.held.ensures c.args.store.now (c.turn_to.ensures.codes c.args.store.now c.requires.codes)) in
    rw c.turn_to.ensures.world at h.same

pub returns-in-Some-clause-later : goal.returns-in-Some-clause-later
returns-in-Some-clause-later c = later-itself c.args.store.now

pub returns-in-Some-clause-codes : goal.returns-in-Some-clause-codes
returns-in-Some-clause-codes c = c.turn_to.ensures.codes c.args.store.now c.requires.codes

pub returns-in_ok-hold-in-None-clause-text : goal.returns-in_ok-hold-in-None-clause-text
returns-in_ok-hold-in-None-clause-text c = rw c.turn_to.ensures.world at c.in_ok-text-in-None.ensures.text

pub returns-in_ok-hold-in-None-clause-world : goal.returns-in_ok-hold-in-None-clause-world
returns-in_ok-hold-in-None-clause-world c = c.in_ok-hold-in-None.ensures.world ∙ c.turn_to.ensures.world

pub returns-in_ok-hold-in-None-clause-codes : goal.returns-in_ok-hold-in-None-clause-codes
returns-in_ok-hold-in-None-clause-codes c =
    c.in_ok-hold-in-None.ensures.codes c.looked_up.new.store
    (codes_later c.args.store.now c.looked_up.new.store c.in_ok-text-in-None.ensures.later c.turn_to.new.self (c.turn_to.ensures.codes c.args.store.now c.requires.codes))
    (just_found (world_seen c.turn_to.new.self.world) c.args.store.now c.looked_up.new.store c.in_ok-text-in-None.ensures.later c.args.source c.args.number _ c.requires.source c.in_ok-text-in-None.ensures.of c.in_ok-text-in-None.ensures.text)
