use Rattle.std.proofs.Common.{◌+◌, ◌∙◌, ◌∷◌, [], true, false, refl, sym, arith}
use Rattle.lua_code.specs.LuaHeapValue.{is_true}
use Rattle.lua_code.specs.Seen.{expression_seen}
use Rattle.lua_operators.specs.LuaSlotsErrors.{gives}
use Rattle.lua_operators.specs.LuaSlotsPoints.{First, DecideNext, Evals, Now}
use Rattle.lua_operators.specs.LuaStoreSeen.{seen}
use Rattle.lua_strides.specs.LuaStackDeclaredFocusFocusTheVariants as focus
use Rattle.lua_strides.specs.LuaStackDeclaredValuesGivenTheVariants as given
use Rattle.lua_loops.specs.LuaStateSeen.{slots_of, frames_of}
use Rattle.lua_loops.specs.LuaStateWorlds.{world_seen}
use Rattle.lua_strides.proofs.Paths.{unpaid}
use Rattle.lua_turns.specs.Deciding.{deciding_with}
use Rattle.lua_turns.proofs.Begun.{decides_begins}
use Rattle.lua_turns.proofs.Chosen.{decided}
use Rattle.lua_turns.proofs.ReadFirst.{led_first, strode_first}
use Rattle.lua_turns.proofs.operands.deciding.Goals as goal

pub second-requires-clause-few : goal.second-requires-clause-few
second-requires-clause-few g c = let got = rw c.in-Some.is at c.read.ensures in omega (arith, got.few)

pub returns-then-not-decides : goal.returns-then-not-decides
returns-then-not-decides g c =
    let s = c.args.store.now in
    let m = c.args.state.now in
    let x = slots_of s m in
    let gs = frames_of s m in
    let r = c.in-Some.first in
    let v = seen s.texts r.value in
    let a = expression_seen c.args.a.now in
    let b = expression_seen c.args.b.now in
    let e = deciding_with c.args.deciding a b in
    c.second.ensures (Evals e gs)
    (led_first s m e a (DecideNext c.args.deciding b) r c.requires (rw c.in-Some.is at c.read.ensures) (decides_begins (world_seen m.codes.world) c.args.deciding a b gs x) (Evals b (First ∷ gs))
    (decided c.args.deciding (is_true v) (gives (v ∷ []) gs x) (Now (Evals b (First ∷ gs)) x) false (sym (c.decides.ensures s.texts) ∙ c.if-not-decides.true)))

pub returns-then-not-pay_nodes : goal.returns-then-not-pay_nodes
returns-then-not-pay_nodes g c = unpaid c.args.store.now c.args.state.now (1 + c.in-Some.first.nodes) c.args.left.now c.pay_nodes.new.left c.args.turns.now c.pay_nodes.new.turns c.if-not-pay_nodes.ensures

pub returns-else-not-pay_nodes : goal.returns-else-not-pay_nodes
returns-else-not-pay_nodes g c =
    let s = c.args.store.now in
    let m = c.args.state.now in
    let x = slots_of s m in
    let gs = frames_of s m in
    let r = c.in-Some.first in
    let v = seen s.texts r.value in
    let got = rw c.in-Some.is at c.read.ensures in
    let a = expression_seen c.args.a.now in
    let b = expression_seen c.args.b.now in
    strode_first s m (deciding_with c.args.deciding a b) a (DecideNext c.args.deciding b) r c.requires got (decides_begins (world_seen m.codes.world) c.args.deciding a b gs x) (focus.Gives (given.One r.value)) m.frames m.frames
    c.args.left.now c.pay_nodes.new.left c.args.turns.now c.pay_nodes.new.turns (got.of, tt) c.requires.frames refl
    (decided c.args.deciding (is_true v) (gives (v ∷ []) gs x) (Now (Evals b (First ∷ gs)) x) true (sym (c.decides.ensures s.texts) ∙ c.if-not-decides.false)) c.if-not-pay_nodes.ensures

pub returns-in-None : goal.returns-in-None
returns-in-None g c = c.begin_deciding.ensures c.args.store.now c.requires
