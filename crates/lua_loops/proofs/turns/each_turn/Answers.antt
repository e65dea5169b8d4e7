use Rattle.std.proofs.Common.{◌∙◌, sym, ap, subst, ℕ, List, length}
use Rattle.lua_code.specs.LuaHeapValue.{Value as Plain}
use Rattle.lua_code.specs.Seen.{block_seen}
use Rattle.lua_state.specs.LuaSlotsPoints as point
use Rattle.lua_state.specs.LuaSlotsSlots.{with_all}
use Rattle.lua_state.specs.LuaStoreSeen.{seen}
use Rattle.lua_state.proofs.LuaStoreLater.{of-later}
use Rattle.lua_state.specs.LuaStackDeclaredFrameEndingTheVariants as ending
use Rattle.lua_state.specs.LuaStackLists.{given_values}
use Rattle.lua_state.specs.LuaStackOf.{ValuesOf}
use Rattle.lua_state.specs.LuaStackSeen.{values_seen, registers_seen, ending_seen}
use Rattle.lua_state.proofs.LuaStackOpenings.{first_of}
use Rattle.lua_loops.proofs.Parts.{counted, seen_first}
use Rattle.lua_loops.proofs.Beginning.{begun, opened_slots, functions_stay}
use Rattle.lua_loops.proofs.turns.each_turn.Goals as goal

pub open_all-requires-clause-values : goal.open_all-requires-clause-values
open_all-requires-clause-values g c = subst (ValuesOf c.args.store.now) (sym c.in_ok-opened.ensures) c.requires.results

pub returns : goal.returns
returns g c =
    let kept = functions_stay c.args.store.now c.open_all.new.store c.args.state.now c.requires.state c.in_ok-open_all.ensures.later in
    counted c.args.store.now c.open_all.new.store c.args.state.now _ c.args.left.now c.args.left.now c.args.turns.now c.tick.new.self _ _ c.tick.ensures
    (begun c.args.store.now c.open_all.new.store c.args.state.now c.run_body.new.frames c.open_all.new.regs c.args.state.now.functions c.args.left.now c.in_ok-focus.focus
    (ending.EachEnd c.depth_of-depth.result c.args.each c.first-first.result) _ (block_seen c.args.each.value.body.now) _
    c.requires.state c.in_ok-open_all.ensures.later c.in_ok-open_all.ensures.of.0 kept.0 (
      (of-later c.args.store.now c.open_all.new.store c.in_ok-open_all.ensures.later c.args.each.value.iterator c.requires.each.0, of-later c.args.store.now c.open_all.new.store c.in_ok-open_all.ensures.later c.args.each.value.state c.requires.each.1),
      of-later c.args.store.now c.open_all.new.store c.in_ok-open_all.ensures.later c.first-first.result (first_of c.args.store.now (given_values c.args.results) c.first-first.result c.first-first.ensures c.requires.results),
    )
    c.in_ok-focus.ensures.of (λ t. rw c.deref-2.ensures at (c.in_ok-focus.ensures.point t))
    (ap (λ (texts : List (List ℕ)). ending_seen texts (ending.EachEnd c.depth_of-depth.result c.args.each c.first-first.result)) c.in_ok-open_all.ensures.texts
    ∙ ap (λ (d : ℕ). point.EachEnd d c.args.each.value.flags.now (seen c.args.store.now.texts c.args.each.value.iterator) (seen c.args.store.now.texts c.args.each.value.state) (seen c.args.store.now.texts c.first-first.result) (block_seen c.args.each.value.body.now) c.args.each.value.line) (c.depth_of-depth.ensures c.args.store.now.texts)
    ∙ ap (λ (v : Plain). point.EachEnd (length (registers_seen c.args.store.now.texts c.args.state.now.regs)) c.args.each.value.flags.now (seen c.args.store.now.texts c.args.each.value.iterator) (seen c.args.store.now.texts c.args.each.value.state) v (block_seen c.args.each.value.body.now) c.args.each.value.line) (seen_first c.args.store.now.texts c.args.results c.first-first.result c.first-first.ensures))
    (opened_slots c.args.store.now c.open_all.new.store c.args.state.now c.run_body.new.frames c.open_all.new.regs c.args.state.now.functions _ _ c.requires.state c.in_ok-open_all.ensures.later
    ((rw c.deref.ensures at c.in_ok-open_all.ensures.opened) ∙ ap (λ vs. with_all c.args.each.value.flags.now (values_seen c.args.store.now.texts vs) (c.args.store.now.heap, registers_seen c.args.store.now.texts c.args.state.now.regs)) c.in_ok-opened.ensures) kept.1))
