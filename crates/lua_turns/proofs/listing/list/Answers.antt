use Rattle.lua_code.specs.Seen.{expressions_seen}
use Rattle.lua_operators.specs.LuaSlotsPoints.{Lists}
use Rattle.lua_strides.specs.LuaStackDeclaredFocusFocusTheVariants as focus
use Rattle.lua_strides.specs.LuaStackDeclaredValuesGivenTheVariants as given
use Rattle.lua_operators.specs.LuaStackSeen.{values_seen}
use Rattle.lua_loops.specs.LuaStateSeen.{frames_of}
use Rattle.lua_turns.proofs.Following.{then_must}
use Rattle.lua_turns.proofs.listing.list.Goals as goal

pub wait_for_item-requires-clause-state : goal.wait_for_item-requires-clause-state
wait_for_item-requires-clause-state g c = (rw c.in-Some.is at c.in_ok-behind.ensures).state

pub wait_for_item-requires-clause-before : goal.wait_for_item-requires-clause-before
wait_for_item-requires-clause-before g c = (rw c.in-Some.is at c.in_ok-behind.ensures).of

pub returns-in-Some : goal.returns-in-Some
returns-in-Some g c =
    let s = c.args.store.now in
    let m = c.args.state.now in
    let l = c.read_front.new.left in
    let k = c.read_front.new.turns in
    then_must s m (Lists (expressions_seen c.args.expressions.now) (values_seen s.texts c.args.before) (frames_of s m)) c.args.left.now c.args.turns.now s m l k (focus.Lists c.in-Some.rest c.read_front.new.before)
    c.wait_for_item.new.store c.wait_for_item.new.state c.wait_for_item.new.left c.wait_for_item.new.turns c.wait_for_item.result (rw c.in-Some.is at c.in_ok-behind.ensures) c.wait_for_item.ensures

pub give_all-requires-clause-state : goal.give_all-requires-clause-state
give_all-requires-clause-state g c = (rw c.in-None.is at c.in_ok-behind.ensures).state

pub give_all-requires-clause-arguments : goal.give_all-requires-clause-arguments
give_all-requires-clause-arguments g c = (rw c.in-None.is at c.in_ok-behind.ensures).of

pub returns-in-None : goal.returns-in-None
returns-in-None g c =
    let s = c.args.store.now in
    let m = c.args.state.now in
    let l = c.read_front.new.left in
    let k = c.read_front.new.turns in
    then_must s m (Lists (expressions_seen c.args.expressions.now) (values_seen s.texts c.args.before) (frames_of s m)) c.args.left.now c.args.turns.now s m l k (focus.Gives (given.Many c.read_front.new.before))
    c.give_all.new.store c.give_all.new.state c.give_all.new.left c.give_all.new.turns c.give_all.result (rw c.in-None.is at c.in_ok-behind.ensures) c.give_all.ensures
