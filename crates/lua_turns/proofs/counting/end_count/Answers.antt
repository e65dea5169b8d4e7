use Rattle.std.proofs.Common.{refl, sym, ap, List, [], rules, w64}
use Rattle.std.proofs.lemmas.Int.{to_z-of_z}
use mir.Val.{SFits}
use Rattle.lua_loops.specs.PageRunOutcome.{Goes}
use Rattle.lua_code.specs.declared.statement.Statement.{Statement}
use Rattle.lua_code.specs.Seen.{block_seen}
use Rattle.lua_operators.specs.LuaSlotsPoints.{Runs}
use Rattle.lua_operators.specs.LuaSlotsSlots.{cut}
use Rattle.lua_strides.specs.LuaStackDeclaredFocusFocusTheVariants as focus
use Rattle.lua_operators.specs.LuaStackDeclaredFrameFrameTheVariants as frame
use Rattle.lua_operators.specs.LuaStackDeclaredFrameEndingTheVariants as ending
use Rattle.lua_strides.specs.LuaStackDeclaredValuesGivenTheVariants as given
use Rattle.lua_operators.specs.LuaStackSeen.{registers_seen}
use Rattle.lua_loops.proofs.Beginning.{opened_number}
use Rattle.lua_loops.proofs.Left.{cut_slots}
use Rattle.lua_loops.proofs.Parts.{counts_at_end}
use Rattle.lua_loops.specs.LuaStateSeen.{slots_of}
use Rattle.lua_strides.proofs.Paths.{unpaid}
use Rattle.lua_turns.proofs.Freely.{popped_here}
use Rattle.lua_turns.proofs.Turning.{turn_follows}
use Rattle.lua_turns.proofs.counting.end_count.Goals as goal

pub open-requires-clause-registers : goal.open-requires-clause-registers
open-requires-clause-registers g c = c.keep_oldest.ensures.of c.args.store.now c.requires.state.regs

pub returns-then-not-pay_nodes : goal.returns-then-not-pay_nodes
returns-then-not-pay_nodes g c = λ values. unpaid c.args.store.now c.args.state.now 1 c.args.left.now c.pay_nodes.new.left c.args.turns.now c.pay_nodes.new.turns c.if-not-pay_nodes.ensures

pub returns-in_ok-open-in-Some : goal.returns-in_ok-open-in-Some
returns-in_ok-open-in-Some g c = λ values.
    let s = c.args.store.now in
    let m = c.args.state.now in
    let count = c.args.count in
    let before : SFits w64 count.index = search rules in
    let limit : SFits w64 count.limit = search rules in
    let step : SFits w64 count.step = search rules in
    let index : SFits w64 c.in-Some.index = search rules in
    let f = frame.End (ending.CountEnd count.depth count.boxed count.index count.limit count.step count.body) in
    let told = rw (to_z-of_z w64 count.index before, to_z-of_z w64 count.limit limit, to_z-of_z w64 count.step step) at (rw c.in-Some.is at c.next_index.ensures) in
    turn_follows s c.open.new.store m c.swap_newest.new.frames c.keep_oldest.new.regs c.open.new.regs c.args.left.now c.pay_nodes.new.left c.args.turns.now c.pay_nodes.new.turns values
    c.requires.newest.0 f _ (focus.Runs c.as_slice.result) count.depth count.boxed count.index c.in-Some.index count.limit count.step (block_seen count.body.now)
    c.requires.state c.requires.newest.1 (c.swap_newest.ensures f c.requires.newest.0 c.requires.newest.1) c.if-not-pay_nodes.ensures
    (λ gs x. told count.boxed (block_seen count.body.now) gs x)
    (c.keep_oldest.ensures.cuts s.texts) c.open.ensures.later c.open.ensures.texts c.in_ok-open-in-Some.ensures.of
    (opened_number count.boxed _ c.in-Some.index (s.heap, registers_seen s.texts c.keep_oldest.new.regs) _ (to_z-of_z w64 c.in-Some.index index) c.in_ok-open-in-Some.ensures.opened)
    refl
    (counts_at_end c.depth_of-depth.result _ count.boxed _ c.in-Some.index _ count.limit _ count.step (block_seen count.body.now) (c.depth_of-depth.ensures s.texts) (to_z-of_z w64 c.in-Some.index index) (to_z-of_z w64 count.limit limit) (to_z-of_z w64 count.step step))
    tt tt (λ gs. ap (λ (x : List Statement). Runs (block_seen x) gs) c.as_slice.ensures)

pub returns-in-None : goal.returns-in-None
returns-in-None g c = λ values.
    let s = c.args.store.now in
    let m = c.args.state.now in
    let count = c.args.count in
    let before : SFits w64 count.index = search rules in
    let limit : SFits w64 count.limit = search rules in
    let step : SFits w64 count.step = search rules in
    let f = frame.End (ending.CountEnd count.depth count.boxed count.index count.limit count.step count.body) in
    let told = rw (to_z-of_z w64 count.index before, to_z-of_z w64 count.limit limit, to_z-of_z w64 count.step step) at (rw c.in-None.is at c.next_index.ensures) in
    popped_here s m c.args.left.now c.args.turns.now (Goes values) f c.requires.newest.0 c.drop_newest.new.frames c.keep_oldest-in-None.new.regs (focus.Gives (given.Many [])) (cut count.depth (slots_of s m)) c.requires.state c.requires.newest.1
    (c.drop_newest.ensures f c.requires.newest.0 c.requires.newest.1) (c.keep_oldest-in-None.ensures.of s c.requires.state.regs) tt
    (λ world gs. told count.boxed (block_seen count.body.now) gs (cut count.depth (slots_of s m)))
    (sym (cut_slots s m c.keep_oldest-in-None.new.regs count.depth (c.keep_oldest-in-None.ensures.cuts s.texts)))
