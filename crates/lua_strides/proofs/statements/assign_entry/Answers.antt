use Rattle.std.proofs.Common.{◌+◌, refl, [], ◌∷◌, arith}
use Rattle.lua_code.specs.Seen.{expression_seen, block_seen}
use Rattle.lua_code.specs.LuaSlotsCode.{AssignC, EntryC, MoreC, NoC, ThenC, CWorld}
use Rattle.lua_state.specs.LuaSlotsPoints.{EntryS, StatsNext, Runs, Sets}
use Rattle.lua_in_place.proofs.Statements.{entry_found}
use Rattle.lua_state.specs.LuaStoreSeen.{seen}
use Rattle.lua_state.specs.LuaStackDeclaredFocusFocusTheVariants as focus
use Rattle.lua_state.specs.LuaStackDeclaredFrameFrameTheVariants as frame
use Rattle.lua_state.specs.LuaStackDeclaredFrameFoundTheVariants as found
use Rattle.lua_state.specs.LuaStackDeclaredFrameSetting.{Setting}
use Rattle.lua_state.specs.LuaStackDeclaredFrameInStatementTheVariants as in_statement
use Rattle.lua_state.specs.Seen.{slots_of, frames_of}
use Rattle.lua_state.specs.Worlds.{world_seen}
use Rattle.lua_strides.proofs.Paths.{ready, at_once, idle_here, unpaid}
use Rattle.lua_strides.proofs.statements.assign_entry.Goals as goal

pub returns-then-not-pay_nodes : goal.returns-then-not-pay_nodes
returns-then-not-pay_nodes g c = unpaid c.args.store.now c.args.state.now (1 + (1 + (c.in-Some.found.of.nodes + (c.in-Some.found.key.nodes + c.in-Some.found.value.nodes)))) c.args.left.now c.pay_nodes.new.left c.args.turns.now c.pay_nodes.new.turns c.if-not-pay_nodes.ensures

pub returns-else-not-pay_nodes : goal.returns-else-not-pay_nodes
returns-else-not-pay_nodes g c =
    let k = rw c.in-Some.is at c.read_entry.ensures in
    let s = c.args.store.now in
    let m = c.args.state.now in
    let world : CWorld = world_seen m.codes.world in
    let o = c.in-Some.found.of in
    let key = c.in-Some.found.key in
    let v = c.in-Some.found.value in
    let line = c.args.target.2 in
    let n = 1 + (1 + (o.nodes + (key.nodes + v.nodes))) in
    let pair : Setting = record { target = found.At o.value key.value line; value = v.value } in
    c.wait_for.ensures s (Runs (ThenC (AssignC (EntryC (expression_seen c.args.target.0.now) (expression_seen c.args.target.1.now) line ∷ []) (MoreC (expression_seen c.args.value.now) NoC)) (block_seen c.args.rest.now)) (frames_of s m)) n c.args.left.now c.pay_nodes.new.left c.args.turns.now c.pay_nodes.new.turns
    (ready s m _ n (focus.Sets (pair ∷ [])) (frame.Statement (in_statement.StatsNext c.args.rest) ∷ m.frames) (λ fs. Sets ((EntryS (seen s.texts o.value) (seen s.texts key.value) line, seen s.texts v.value) ∷ []) (StatsNext (block_seen c.args.rest.now) ∷ fs))
    c.requires (((k.0.of, k.1.of), k.2.of), tt) (tt, c.requires.frames) (omega arith)
    (at_once world _ (slots_of s m) n _ (slots_of s m) (entry_found world (slots_of s m) (expression_seen c.args.target.0.now) (expression_seen c.args.target.1.now) (expression_seen c.args.value.now) line (seen s.texts o.value) (seen s.texts key.value) (seen s.texts v.value) o.nodes key.nodes v.nodes
    k.0.is k.1.is k.2.is (block_seen c.args.rest.now) (frames_of s m))) refl) c.if-not-pay_nodes.ensures

pub returns-in-None : goal.returns-in-None
returns-in-None g c = idle_here c.args.store.now c.args.state.now c.args.left.now c.args.turns.now
