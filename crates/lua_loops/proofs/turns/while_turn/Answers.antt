use Rattle.std.proofs.Common.{refl, ap, ℕ}
use Rattle.lua_code.specs.Seen.{expression_seen, block_seen}
use Rattle.lua_state.specs.LuaSlotsPoints as point
use Rattle.lua_state.proofs.LuaStoreLater.{later-itself}
use Rattle.lua_state.specs.LuaStackDeclaredFrameEndingTheVariants as ending
use Rattle.lua_state.specs.Seen.{slots_of}
use Rattle.lua_loops.proofs.Parts.{counted}
use Rattle.lua_loops.proofs.Beginning.{begun}
use Rattle.lua_loops.proofs.turns.while_turn.Goals as goal

pub returns : goal.returns
returns g c =
    counted c.args.store.now c.args.store.now c.args.state.now _ c.args.left.now c.args.left.now c.args.turns.now c.tick.new.self _ _ c.tick.ensures
    (begun c.args.store.now c.args.store.now c.args.state.now c.run_body.new.frames c.args.state.now.regs c.args.state.now.functions c.args.left.now c.in_ok-focus.focus
    (ending.WhileEnd c.depth_of-depth.result c.args.test c.args.body) _ (block_seen c.args.body.now) (slots_of c.args.store.now c.args.state.now)
    c.requires.state (later-itself c.args.store.now) c.requires.state.regs c.requires.state.functions tt c.in_ok-focus.ensures.of c.in_ok-focus.ensures.point
    (ap (λ (d : ℕ). point.WhileEnd d (expression_seen c.args.test.now) (block_seen c.args.body.now)) (c.depth_of-depth.ensures c.args.store.now.texts)) refl)
