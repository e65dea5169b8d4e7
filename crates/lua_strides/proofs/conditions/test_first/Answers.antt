use Rattle.std.proofs.Common.{◌+◌, ℕ, refl, ap, sym, subst, List, ◌∷◌, arith}
use Rattle.std.specs.Prelude.{option_map}
use Rattle.lua_code.specs.declared.statement.Statement.{Statement}
use Rattle.lua_code.specs.Seen.{expression_seen, block_seen, branches_seen}
use Rattle.lua_code.specs.LuaSlotsCode.{ArmC, ThenC, CWorld}
use Rattle.lua_state.specs.LuaSlotsPoints.{BlockEnd, StatsNext, Runs}
use Rattle.lua_state.specs.LuaStoreSeen.{seen}
use Rattle.lua_state.specs.LuaStackDeclaredFocusFocusTheVariants as focus
use Rattle.lua_state.specs.LuaStackDeclaredFrameFrameTheVariants as frame
use Rattle.lua_state.specs.LuaStackDeclaredFrameEndingTheVariants as ending
use Rattle.lua_state.specs.LuaStackDeclaredFrameInStatementTheVariants as in_statement
use Rattle.lua_state.specs.Seen.{slots_of, frames_of}
use Rattle.lua_state.specs.Worlds.{world_seen}
use Rattle.lua_strides.specs.Conditions.{if_seen}
use Rattle.lua_strides.specs.Strides.{LeadsAt}
use Rattle.lua_strides.proofs.Paths.{ready, idle_here, strode, unpaid}
use Rattle.lua_strides.proofs.conditions.test_first.Goals as goal

pub returns-then-not-pay_nodes : goal.returns-then-not-pay_nodes
returns-then-not-pay_nodes g c = unpaid c.args.store.now c.args.state.now (1 + c.in-Some.found.nodes) c.args.left.now c.pay_nodes.new.left c.args.turns.now c.pay_nodes.new.turns c.if-not-pay_nodes.ensures

pub returns-else-not-pay_nodes : goal.returns-else-not-pay_nodes
returns-else-not-pay_nodes g c =
    let k = rw c.in-Some.is at c.read.ensures in
    let s = c.args.store.now in
    let m = c.args.state.now in
    let world : CWorld = world_seen m.codes.world in
    let v = seen s.texts c.in-Some.found.value in
    let n = 1 + c.in-Some.found.nodes in
    let p = Runs (ThenC (if_seen (ArmC (expression_seen c.args.test.now) (block_seen c.args.body.now) (branches_seen c.args.more.now)) (option_map block_seen c.args.other.now)) (block_seen c.args.rest.now)) (frames_of s m) in
    let led = rw c.in-Block.is at c.chosen.ensures in
    c.wait_within.ensures s p n c.args.left.now c.pay_nodes.new.left c.args.turns.now c.pay_nodes.new.turns
    (ready s m p n (focus.Runs c.as_slice-block.result) (frame.End (ending.BlockEnd c.depth_of-depth.result) ∷ frame.Statement (in_statement.StatsNext c.args.rest) ∷ m.frames)
    (λ fs. Runs (block_seen c.in-Block.block.now) (BlockEnd c.depth_of-depth.result ∷ StatsNext (block_seen c.args.rest.now) ∷ fs))
    c.requires tt (tt, (tt, c.requires.frames)) (omega arith)
    (subst (λ (d : ℕ). LeadsAt world p (slots_of s m) n (Runs (block_seen c.in-Block.block.now) (BlockEnd d ∷ StatsNext (block_seen c.args.rest.now) ∷ frames_of s m)) (slots_of s m)) (sym (c.depth_of-depth.ensures s.texts))
    (led world (expression_seen c.args.test.now) (block_seen c.args.rest.now) (slots_of s m) v c.in-Some.found.nodes (frames_of s m) k.is (sym (c.is_true.ensures s.texts))))
    (ap (λ (b : List Statement). Runs (block_seen b) (BlockEnd c.depth_of-depth.result ∷ StatsNext (block_seen c.args.rest.now) ∷ frames_of s m)) (sym c.as_slice-block.ensures))) c.if-not-pay_nodes.ensures

pub returns-then-not-pay_nodes-2 : goal.returns-then-not-pay_nodes-2
returns-then-not-pay_nodes-2 g c = unpaid c.args.store.now c.args.state.now (1 + c.in-Some.found.nodes) c.args.left.now c.pay_nodes-in-Rest.new.left c.args.turns.now c.pay_nodes-in-Rest.new.turns c.if-not-pay_nodes-2.ensures

pub returns-else-not-pay_nodes-2 : goal.returns-else-not-pay_nodes-2
returns-else-not-pay_nodes-2 g c =
    let k = rw c.in-Some.is at c.read.ensures in
    let s = c.args.store.now in
    let m = c.args.state.now in
    let world : CWorld = world_seen m.codes.world in
    let v = seen s.texts c.in-Some.found.value in
    let p = Runs (ThenC (if_seen (ArmC (expression_seen c.args.test.now) (block_seen c.args.body.now) (branches_seen c.args.more.now)) (option_map block_seen c.args.other.now)) (block_seen c.args.rest.now)) (frames_of s m) in
    let led = rw c.in-Rest.is at c.chosen.ensures in
    strode s m p (1 + c.in-Some.found.nodes) (focus.Runs c.args.rest) m.frames c.args.left.now c.pay_nodes-in-Rest.new.left c.args.turns.now c.pay_nodes-in-Rest.new.turns
    (ready s m p (1 + c.in-Some.found.nodes) (focus.Runs c.args.rest) m.frames (λ fs. Runs (block_seen c.args.rest.now) fs) c.requires tt c.requires.frames (omega arith)
    (led world (expression_seen c.args.test.now) (block_seen c.args.rest.now) (slots_of s m) v c.in-Some.found.nodes (frames_of s m) k.is (sym (c.is_true.ensures s.texts))) refl) c.if-not-pay_nodes-2.ensures

pub returns-in-Later : goal.returns-in-Later
returns-in-Later g c = idle_here c.args.store.now c.args.state.now c.args.left.now c.args.turns.now

pub returns-in-None : goal.returns-in-None
returns-in-None g c = idle_here c.args.store.now c.args.state.now c.args.left.now c.args.turns.now
