use Rattle.std.proofs.Common.{refl, [], ◌∷◌}
use Rattle.lua_in_place.specs.PageRunOutcome.{Goes}
use Rattle.lua_code.specs.Seen.{expression_seen}
use Rattle.lua_code.specs.LuaSlotsCode.{CWorld}
use Rattle.lua_state.specs.LuaSlotsPoints.{Evals, Gives}
use Rattle.lua_in_place.proofs.Nodes.{nodes_are_some}
use Rattle.lua_in_place.proofs.Reading.{read_in_place}
use Rattle.lua_state.specs.LuaStoreSeen.{seen}
use Rattle.lua_state.specs.LuaStackDeclaredFocusFocusTheVariants as focus
use Rattle.lua_state.specs.LuaStackDeclaredValuesGivenTheVariants as given
use Rattle.lua_state.specs.Seen.{slots_of, frames_of, constants_in}
use Rattle.lua_state.specs.Worlds.{world_seen}
use Rattle.lua_strides.proofs.Paths.{ready, idle_here, strode, unpaid}
use Rattle.lua_strides.proofs.striding.give_value.Goals as goal

pub returns-then-not-pay_nodes : goal.returns-then-not-pay_nodes
returns-then-not-pay_nodes g c = unpaid c.args.store.now c.args.state.now c.in-Some.found.nodes c.args.left.now c.pay_nodes.new.left c.args.turns.now c.pay_nodes.new.turns c.if-not-pay_nodes.ensures

pub returns-else-not-pay_nodes : goal.returns-else-not-pay_nodes
returns-else-not-pay_nodes g c =
    let k = rw c.in-Some.is at c.read.ensures in
    let s = c.args.store.now in
    let m = c.args.state.now in
    let world : CWorld = world_seen m.codes.world in
    let e = expression_seen c.args.e.now in
    strode s m (Evals e (frames_of s m)) c.in-Some.found.nodes (focus.Gives (given.One c.in-Some.found.value)) m.frames c.args.left.now c.pay_nodes.new.left c.args.turns.now c.pay_nodes.new.turns
    (ready s m _ c.in-Some.found.nodes (focus.Gives (given.One c.in-Some.found.value)) m.frames (λ fs. Gives (Goes (seen s.texts c.in-Some.found.value ∷ [])) fs) c.requires (k.of, tt) c.requires.frames
    (nodes_are_some (constants_in s m) e (slots_of s m) (seen s.texts c.in-Some.found.value) c.in-Some.found.nodes k.is)
    (λ f le. read_in_place world e (slots_of s m) (seen s.texts c.in-Some.found.value) c.in-Some.found.nodes k.is (frames_of s m) f le) refl) c.if-not-pay_nodes.ensures

pub returns-in-None : goal.returns-in-None
returns-in-None g c = idle_here c.args.store.now c.args.state.now c.args.left.now c.args.turns.now
