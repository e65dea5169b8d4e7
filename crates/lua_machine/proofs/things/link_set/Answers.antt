use Rattle.std.proofs.Common.{refl, ◌∙◌}
use Rattle.lua_blocks.specs.LuaStateSeen.{slots_of, frames_of, funds_of}
use Rattle.lua_blocks.proofs.LuaStateStaying.{state_later}
use Rattle.lua_blocks.proofs.LuaStateMaking.{from_paid, seen_later}
use Rattle.lua_machine.proofs.Moves.{unless_on}
use Rattle.lua_machine.proofs.things.link_set.Goals as goal

pub finish_paid-requires-clause-state : goal.finish_paid-requires-clause-state
finish_paid-requires-clause-state c = state_later c.args.store.now c.set_link.new.store c.in_ok-paid.ensures.later c.args.state.now c.requires.state

pub returns : goal.returns
returns c =
    from_paid c.args.store.now c.set_link.new.store c.finish_paid.new.store c.args.state.now c.args.state.now c.args.left.now c.set_link.new.left c.finish_paid.new.left _ c.in_ok-paid.paid c.in_ok-turn.turn
    refl c.in_ok-paid.ensures.later (unless_on c.args.store.now c.set_link.new.store c.in_ok-paid.paid c.in_ok-paid.ensures.still)
    (λ told n. c.in_ok-paid.ensures.move_ (frames_of c.args.store.now c.args.state.now) (slots_of c.args.store.now c.args.state.now) c.args.state.now.calls (funds_of c.args.left.now c.args.state.now told n).tally refl
    ∙ seen_later c.args.store.now c.set_link.new.store c.args.state.now c.in_ok-paid.paid (funds_of c.set_link.new.left c.args.state.now told n) c.requires.state c.in_ok-paid.ensures.later)
    c.in_ok-turn.ensures.state c.in_ok-turn.ensures.later c.in_ok-turn.ensures.heap c.in_ok-turn.ensures.makes
