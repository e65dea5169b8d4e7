use Rattle.lua_code.specs.Seen.{expressions_seen}
use Rattle.lua_operators.specs.LuaSlotsPoints.{Lists}
use Rattle.lua_strides.specs.LuaStackDeclaredFocusFocusTheVariants as focus
use Rattle.lua_strides.specs.LuaStackDeclaredValuesGivenTheVariants as given
use Rattle.lua_operators.specs.LuaStackSeen.{values_seen}
use Rattle.lua_loops.specs.LuaStateSeen.{frames_of}
use Rattle.lua_turns.proofs.Following.{follows_none, follows_then, follows_unpaid}
use Rattle.lua_turns.proofs.Listed.{last_read, one_read}
use Rattle.lua_turns.proofs.listing.read_front.Goals as goal

pub items-init : goal.items-init
items-init g c = follows_none c.args.store.now c.args.state.now (focus.Lists c.args.expressions c.args.before.now) c.args.left.now c.args.turns.now c.requires.state c.requires.before

pub returns-then-not-pay_nodes : goal.returns-then-not-pay_nodes
returns-then-not-pay_nodes g c =
    let s = c.args.store.now in
    let m = c.args.state.now in
    follows_unpaid s m (Lists (expressions_seen c.args.expressions.now) (values_seen s.texts c.args.before.now) (frames_of s m)) c.args.left.now c.args.turns.now s m c.items.left c.items.turns (focus.Lists c.items.rest.items c.items.before)
    c.in-Some-read.found.nodes c.pay_nodes.new.left c.pay_nodes.new.turns c.items.invariant c.if-not-pay_nodes.ensures

pub items-preserved : goal.items-preserved
items-preserved g c =
    let s = c.args.store.now in
    let m = c.args.state.now in
    let front = c.in-Some.front in
    let l = c.pay_nodes.new.left in
    let k = c.pay_nodes.new.turns in
    follows_then s m (Lists (expressions_seen c.args.expressions.now) (values_seen s.texts c.args.before.now) (frames_of s m)) c.args.left.now c.args.turns.now s m c.items.left c.items.turns (focus.Lists c.items.rest.items c.items.before)
    s m l k (focus.Lists front.rest c.add.new.self) c.items.invariant
    (one_read s m c.items.left l c.items.turns k c.items.rest.items.now front.first.now front.rest c.items.before c.add.new.self c.in-Some-read.found c.requires.state c.items.invariant.of (rw c.in-Some-read.is at c.read.ensures) c.in-Some.ensures c.in_ok-add-in-Some-read.ensures.ok c.if-not-pay_nodes.ensures
    c.in-Some-front_of.field-0.first.now c.in-Some-front_of.field-0.rest.now c.in-Some-front_of.ensures)

pub returns-in-None-front_of : goal.returns-in-None-front_of
returns-in-None-front_of g c =
    let s = c.args.store.now in
    let m = c.args.state.now in
    let front = c.in-Some.front in
    let l = c.pay_nodes.new.left in
    let k = c.pay_nodes.new.turns in
    follows_then s m (Lists (expressions_seen c.args.expressions.now) (values_seen s.texts c.args.before.now) (frames_of s m)) c.args.left.now c.args.turns.now s m c.items.left c.items.turns (focus.Lists c.items.rest.items c.items.before)
    s m l k (focus.Gives (given.Many c.add.new.self)) c.items.invariant
    (last_read s m c.items.left l c.items.turns k c.items.rest.items.now front.first.now front.rest c.items.before c.add.new.self c.in-Some-read.found c.requires.state c.items.invariant.of (rw c.in-Some-read.is at c.read.ensures) c.in-Some.ensures c.in_ok-add-in-Some-read.ensures.ok c.if-not-pay_nodes.ensures
    c.in-None-front_of.ensures)

pub returns-in-None : goal.returns-in-None
returns-in-None g c = c.items.invariant

pub returns : goal.returns
returns g c = c.items.invariant
