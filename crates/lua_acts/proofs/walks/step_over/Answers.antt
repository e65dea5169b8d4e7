use Rattle.std.proofs.Common.{◌≡◌, rules, w64, to_z, of_z}
use Rattle.lua_code.specs.LuaSlotsCallBacks.{next_place}
use Rattle.lua_state.specs.Seen.{slots_of, frames_of}
use Rattle.lua_state.proofs.Staying.{state_later}
use Rattle.lua_acts.proofs.Refusing.{argument_found, argument_refused}
use Rattle.lua_acts.proofs.walks.step_over.Goals as goal

pub returns-in_ok-turn-in-Ok : goal.returns-in_ok-turn-in-Ok
returns-in_ok-turn-in-Ok c =
    let whole : to_z w64 (of_z w64 c.in-Ok.place) ≡ c.in-Ok.place = search rules in
    rw (← c.rest.ensures.values c.args.store.now.texts)
    (argument_found c.args.store.now c.a_number.new.store c.a_number.new.store c.args.state.now c.args.left.now c.args.left.now c.args.line _ c.in-Ok.place c.in_ok-turn-in-Ok.turn
    (λ y n. next_place c.args.table.at n (frames_of y c.args.state.now) (slots_of y c.args.state.now))
    c.in-Ok.ensures.found c.in-Ok.ensures.same (rw whole at (c.in_ok-turn-in-Ok.ensures c.args.left.now)))

pub returns-in_ok-turn-in-Err : goal.returns-in_ok-turn-in-Err
returns-in_ok-turn-in-Err c =
    rw (← c.rest.ensures.values c.args.store.now.texts)
    (argument_refused c.args.store.now c.a_number.new.store c.refuse.new.store c.args.state.now c.args.left.now c.refuse.new.left c.args.line _ c.in-Err.stop c.in_ok-turn-in-Err.turn _
    c.requires.state c.in-Err.ensures.later c.in-Err.ensures.refused c.in_ok-turn-in-Err.ensures)

pub a_number-requires : goal.a_number-requires
a_number-requires c = c.rest.ensures.of c.args.store.now c.requires.arguments

pub next_place-requires-clause-state : goal.next_place-requires-clause-state
next_place-requires-clause-state c = rw c.in-Ok.ensures.same c.requires.state

pub refuse-requires-clause-state : goal.refuse-requires-clause-state
refuse-requires-clause-state c = state_later c.args.store.now c.a_number.new.store c.in-Err.ensures.later c.args.state.now c.requires.state
