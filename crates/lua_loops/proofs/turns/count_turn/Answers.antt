use Rattle.std.proofs.Common.{rules, w64, to_z, of_z}
use Rattle.std.proofs.lemmas.Int.{to_z-of_z}
use mir.Val.{SFits}
use Rattle.lua_code.specs.Seen.{block_seen}
use Rattle.lua_state.specs.LuaStackDeclaredFrameEndingTheVariants as ending
use Rattle.lua_state.specs.LuaStackSeen.{registers_seen}
use Rattle.lua_loops.proofs.Parts.{counted, counts_at_end}
use Rattle.lua_loops.proofs.Beginning.{begun, opened_slots, opened_number, functions_stay}
use Rattle.lua_loops.proofs.turns.count_turn.Goals as goal

pub returns : goal.returns
returns g c =
    let kept = functions_stay c.args.store.now c.open.new.store c.args.state.now c.requires.state c.in_ok-open.ensures.later in
    let index : SFits w64 c.args.range.0 = search rules in
    let limit : SFits w64 c.args.range.1 = search rules in
    let step : SFits w64 c.args.range.2 = search rules in
    counted c.args.store.now c.open.new.store c.args.state.now _ c.args.left.now c.args.left.now c.args.turns.now c.tick.new.self _ _ c.tick.ensures
    (begun c.args.store.now c.open.new.store c.args.state.now c.run_body.new.frames c.open.new.regs c.args.state.now.functions c.args.left.now c.in_ok-focus.focus
    (ending.CountEnd c.depth_of-depth.result c.args.boxed (to_z w64 (of_z w64 c.args.range.0)) (to_z w64 (of_z w64 c.args.range.1)) (to_z w64 (of_z w64 c.args.range.2)) c.args.body) _ (block_seen c.args.body.now) _
    c.requires.state c.in_ok-open.ensures.later c.in_ok-open.ensures.of kept.0 tt c.in_ok-focus.ensures.of c.in_ok-focus.ensures.point
    (counts_at_end c.depth_of-depth.result _ c.args.boxed _ c.args.range.0 _ c.args.range.1 _ c.args.range.2 (block_seen c.args.body.now) (c.depth_of-depth.ensures c.args.store.now.texts)
    (to_z-of_z w64 c.args.range.0 index) (to_z-of_z w64 c.args.range.1 limit) (to_z-of_z w64 c.args.range.2 step))
    (opened_slots c.args.store.now c.open.new.store c.args.state.now c.run_body.new.frames c.open.new.regs c.args.state.now.functions _ _ c.requires.state c.in_ok-open.ensures.later
    (opened_number c.args.boxed _ c.args.range.0 (c.args.store.now.heap, registers_seen c.args.store.now.texts c.args.state.now.regs) _ (to_z-of_z w64 c.args.range.0 index) c.in_ok-open.ensures.opened) kept.1))
