use Rattle.std.proofs.Common.{◌+◌, refl, arith}
use Rattle.lua_code.specs.Seen.{expression_seen, block_seen, place_seen}
use Rattle.lua_code.specs.LuaSlotsCode.{CWorld}
use Rattle.lua_state.specs.LuaSlotsSlots.{write_place}
use Rattle.lua_state.specs.LuaSlotsPoints.{Runs}
use Rattle.lua_in_place.proofs.Statements.{assigned}
use Rattle.lua_state.specs.LuaStoreSeen.{seen}
use Rattle.lua_state.specs.LuaStackDeclaredFocusFocusTheVariants as focus
use Rattle.lua_state.specs.Seen.{slots_of, frames_of}
use Rattle.lua_state.specs.Worlds.{world_seen}
use Rattle.lua_strides.proofs.Paths.{at_once, idle_here, unpaid}
use Rattle.lua_strides.proofs.Written.{strode_changed, writes_at}
use Rattle.lua_strides.proofs.statements.assign.Goals as goal

pub write-requires-clause-registers : goal.write-requires-clause-registers
write-requires-clause-registers g c = c.requires.regs

pub write-requires-clause-closure : goal.write-requires-clause-closure
write-requires-clause-closure g c = c.running_closure-closure.ensures.of c.args.store.now c.requires.functions

pub write-requires-clause-value : goal.write-requires-clause-value
write-requires-clause-value g c = (rw c.in-Some.is at c.read.ensures).of

pub returns-then-not-pay_nodes : goal.returns-then-not-pay_nodes
returns-then-not-pay_nodes g c = unpaid c.args.store.now c.args.state.now (1 + c.in-Some.found.nodes) c.args.left.now c.pay_nodes.new.left c.args.turns.now c.pay_nodes.new.turns c.if-not-pay_nodes.ensures

pub returns-else-not-pay_nodes : goal.returns-else-not-pay_nodes
returns-else-not-pay_nodes g c =
    let k = rw c.in-Some.is at c.read.ensures in
    let s = c.args.store.now in
    let m = c.args.state.now in
    let world : CWorld = world_seen m.codes.world in
    let v = seen s.texts c.in-Some.found.value in
    strode_changed s c.write.new.store m c.write.new.regs _ (1 + c.in-Some.found.nodes) (focus.Runs c.args.rest) (λ fs. Runs (block_seen c.args.rest.now) fs) _ (write_place (slots_of s m) (place_seen c.args.place) v) c.args.left.now c.pay_nodes.new.left c.args.turns.now c.pay_nodes.new.turns
    c.requires c.write.ensures.later c.write.ensures.of tt (omega arith) c.if-not-pay_nodes.ensures
    (at_once world _ (slots_of s m) _ _ _ (assigned world (slots_of s m) (place_seen c.args.place) (expression_seen c.args.value.now) v c.in-Some.found.nodes k.is (block_seen c.args.rest.now) (frames_of s m))) (λ fs. refl)
    c.write.ensures.written (writes_at (slots_of s m) _ (place_seen c.args.place) v (c.running_closure-closure.ensures.cells s))

pub returns-in-None : goal.returns-in-None
returns-in-None g c = idle_here c.args.store.now c.args.state.now c.args.left.now c.args.turns.now
