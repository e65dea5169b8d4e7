use Rattle.lua_code.specs.Seen.{expression_seen}
use Rattle.lua_operators.specs.LuaSlotsPoints.{Evals}
use Rattle.lua_strides.specs.LuaStackDeclaredFocusFocusTheVariants as focus
use Rattle.lua_strides.specs.LuaStackDeclaredValuesGivenTheVariants as given
use Rattle.lua_loops.specs.LuaStateSeen.{frames_of}
use Rattle.lua_turns.proofs.Following.{follows_none, follows_unpaid, strides_follow}
use Rattle.lua_turns.proofs.ReadFirst.{value_given}
use Rattle.lua_turns.proofs.at_hand.next_of.Goals as goal

pub returns-then-not-pay_nodes : goal.returns-then-not-pay_nodes
returns-then-not-pay_nodes g c =
    let s = c.args.store.now in
    let m = c.args.state.now in
    let l = c.args.left.now in
    let k = c.args.turns.now in
    let y = focus.Evaluates c.args.e in
    follows_unpaid s m (Evals (expression_seen c.args.e.now) (frames_of s m)) l k s m l k y c.in-Some.found.nodes c.pay_nodes.new.left c.pay_nodes.new.turns (follows_none s m y l k c.requires tt) c.if-not-pay_nodes.ensures

pub returns-else-not-pay_nodes : goal.returns-else-not-pay_nodes
returns-else-not-pay_nodes g c =
    let s = c.args.store.now in
    let m = c.args.state.now in
    let e = expression_seen c.args.e.now in
    let r = c.in-Some.found in
    strides_follow s m (Evals e (frames_of s m)) c.args.left.now c.args.turns.now s m c.pay_nodes.new.left c.pay_nodes.new.turns (focus.Gives (given.One r.value))
    (value_given s m e r c.args.left.now c.pay_nodes.new.left c.args.turns.now c.pay_nodes.new.turns c.requires (rw c.in-Some.is at c.read.ensures) c.if-not-pay_nodes.ensures)

pub returns-in-None : goal.returns-in-None
returns-in-None g c = follows_none c.args.store.now c.args.state.now (focus.Evaluates c.args.e) c.args.left.now c.args.turns.now c.requires tt
