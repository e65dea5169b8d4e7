use Rattle.std.proofs.Common.{◌+◌, refl, [], ◌∷◌, arith}
use Rattle.lua_in_place.specs.PageRunOutcome.{Jumps}
use Rattle.lua_code.specs.LuaMeaningActs.{Returned}
use Rattle.lua_code.specs.Seen.{expression_seen, block_seen}
use Rattle.lua_code.specs.LuaSlotsCode.{ReturnC, MoreC, NoC, ThenC, CWorld}
use Rattle.lua_state.specs.LuaSlotsPoints.{Gives, Runs}
use Rattle.lua_in_place.proofs.Statements.{returned}
use Rattle.lua_state.specs.LuaStoreSeen.{seen}
use Rattle.lua_state.specs.LuaStackDeclaredFocusFocusTheVariants as focus
use Rattle.lua_state.specs.LuaStackDeclaredFocusJumpTheVariants as jump
use Rattle.lua_state.specs.LuaStackDeclaredValuesGivenTheVariants as given
use Rattle.lua_state.specs.Seen.{slots_of, frames_of}
use Rattle.lua_state.specs.Worlds.{world_seen}
use Rattle.lua_strides.proofs.Paths.{ready, at_once, idle_here, strode, unpaid}
use Rattle.lua_strides.proofs.statements.return_value.Goals as goal

pub returns-then-not-pay_nodes : goal.returns-then-not-pay_nodes
returns-then-not-pay_nodes g c = unpaid c.args.store.now c.args.state.now (1 + c.in-Some.found.nodes) c.args.left.now c.pay_nodes.new.left c.args.turns.now c.pay_nodes.new.turns c.if-not-pay_nodes.ensures

pub returns-else-not-pay_nodes : goal.returns-else-not-pay_nodes
returns-else-not-pay_nodes g c =
    let k = rw c.in-Some.is at c.read.ensures in
    let s = c.args.store.now in
    let m = c.args.state.now in
    let world : CWorld = world_seen m.codes.world in
    strode s m (Runs (ThenC (ReturnC (MoreC (expression_seen c.args.value.now) NoC)) (block_seen c.args.rest.now)) (frames_of s m)) (1 + c.in-Some.found.nodes) (focus.Jumps (jump.Returned (given.One c.in-Some.found.value))) m.frames c.args.left.now c.pay_nodes.new.left c.args.turns.now c.pay_nodes.new.turns
    (ready s m _ (1 + c.in-Some.found.nodes) (focus.Jumps (jump.Returned (given.One c.in-Some.found.value))) m.frames (λ fs. Gives (Jumps (Returned (seen s.texts c.in-Some.found.value ∷ []))) fs) c.requires (k.of, tt) c.requires.frames
    (omega arith) (at_once world _ (slots_of s m) _ _ (slots_of s m) (returned world (slots_of s m) (expression_seen c.args.value.now) (seen s.texts c.in-Some.found.value) c.in-Some.found.nodes k.is (block_seen c.args.rest.now) (frames_of s m))) refl) c.if-not-pay_nodes.ensures

pub returns-in-None : goal.returns-in-None
returns-in-None g c = idle_here c.args.store.now c.args.state.now c.args.left.now c.args.turns.now
