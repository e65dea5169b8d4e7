use Rattle.std.proofs.Common.{◌∙◌, ◌∷◌, ◌++◌, [], ap, List}
use Rattle.lua_loops.specs.PageRunOutcome.{Goes}
use Rattle.lua_operators.specs.LuaSlotsPoints.{Gives}
use Rattle.lua_operators.specs.LuaStoreDeclaredValueValue.{Value}
use Rattle.lua_operators.specs.LuaStoreSeen.{seen}
use Rattle.lua_strides.specs.LuaStackDeclaredFocusFocusTheVariants as focus
use Rattle.lua_strides.specs.LuaStackDeclaredValuesGivenTheVariants as given
use Rattle.lua_loops.specs.LuaStateSeen.{frames_of}
use Rattle.lua_loops.proofs.Beginning.{with_parts}
use Rattle.lua_turns.proofs.Following.{then_must}
use Rattle.lua_turns.proofs.Listed.{item_taken, items_taken}
use Rattle.lua_turns.proofs.listing.take_item.Goals as goal

pub take_before-before-requires : goal.take_before-before-requires
take_before-before-requires g c = (c.args.rest, c.requires.newest.0, c.requires.newest.1.0, c.requires.newest.1.1)

pub list-requires-clause-state : goal.list-requires-clause-state
list-requires-clause-state g c =
    let s = c.args.store.now in
    let m = c.args.state.now in
    let before = c.requires.newest.0 in
    let more = c.requires.newest.1.0 in
    let taken = c.take_before-before.ensures c.args.rest before more c.requires.newest.1.1 in
    let added = c.in_ok-add.ensures.ok ∙ ap (λ (vs : List Value). vs ++ c.args.value ∷ []) taken.0 in
    rw taken.1 (item_taken s m c.args.left.now c.args.turns.now c.args.rest c.args.value before c.add.new.self more c.in-Some.field-0.first.now c.in-Some.field-0.rest.now c.requires.state c.requires.value c.requires.newest.1.1 added c.in-Some.ensures).state

pub list-requires-clause-before : goal.list-requires-clause-before
list-requires-clause-before g c =
    let s = c.args.store.now in
    let m = c.args.state.now in
    let before = c.requires.newest.0 in
    let more = c.requires.newest.1.0 in
    let taken = c.take_before-before.ensures c.args.rest before more c.requires.newest.1.1 in
    let added = c.in_ok-add.ensures.ok ∙ ap (λ (vs : List Value). vs ++ c.args.value ∷ []) taken.0 in
    (item_taken s m c.args.left.now c.args.turns.now c.args.rest c.args.value before c.add.new.self more c.in-Some.field-0.first.now c.in-Some.field-0.rest.now c.requires.state c.requires.value c.requires.newest.1.1 added c.in-Some.ensures).of

pub returns-in-Some : goal.returns-in-Some
returns-in-Some g c =
    let s = c.args.store.now in
    let m = c.args.state.now in
    let before = c.requires.newest.0 in
    let more = c.requires.newest.1.0 in
    let taken = c.take_before-before.ensures c.args.rest before more c.requires.newest.1.1 in
    let added = c.in_ok-add.ensures.ok ∙ ap (λ (vs : List Value). vs ++ c.args.value ∷ []) taken.0 in
    then_must s m (Gives (Goes (seen s.texts c.args.value ∷ [])) (frames_of s m)) c.args.left.now c.args.turns.now s (with_parts m c.take_before-before.new.self m.regs m.functions) c.args.left.now c.args.turns.now (focus.Lists c.args.rest c.add.new.self)
    c.list.new.store c.list.new.state c.list.new.left c.list.new.turns c.list.result (rw taken.1 (item_taken s m c.args.left.now c.args.turns.now c.args.rest c.args.value before c.add.new.self more c.in-Some.field-0.first.now c.in-Some.field-0.rest.now c.requires.state c.requires.value c.requires.newest.1.1 added c.in-Some.ensures)) c.list.ensures

pub give_all-requires-clause-state : goal.give_all-requires-clause-state
give_all-requires-clause-state g c =
    let s = c.args.store.now in
    let m = c.args.state.now in
    let before = c.requires.newest.0 in
    let more = c.requires.newest.1.0 in
    let taken = c.take_before-before.ensures c.args.rest before more c.requires.newest.1.1 in
    let added = c.in_ok-add.ensures.ok ∙ ap (λ (vs : List Value). vs ++ c.args.value ∷ []) taken.0 in
    rw taken.1 (items_taken s m c.args.left.now c.args.turns.now c.args.rest c.args.value before c.add.new.self more c.requires.state c.requires.value c.requires.newest.1.1 added c.in-None.ensures).state

pub give_all-requires-clause-arguments : goal.give_all-requires-clause-arguments
give_all-requires-clause-arguments g c =
    let s = c.args.store.now in
    let m = c.args.state.now in
    let before = c.requires.newest.0 in
    let more = c.requires.newest.1.0 in
    let taken = c.take_before-before.ensures c.args.rest before more c.requires.newest.1.1 in
    let added = c.in_ok-add.ensures.ok ∙ ap (λ (vs : List Value). vs ++ c.args.value ∷ []) taken.0 in
    (items_taken s m c.args.left.now c.args.turns.now c.args.rest c.args.value before c.add.new.self more c.requires.state c.requires.value c.requires.newest.1.1 added c.in-None.ensures).of

pub returns-in-None : goal.returns-in-None
returns-in-None g c =
    let s = c.args.store.now in
    let m = c.args.state.now in
    let before = c.requires.newest.0 in
    let more = c.requires.newest.1.0 in
    let taken = c.take_before-before.ensures c.args.rest before more c.requires.newest.1.1 in
    let added = c.in_ok-add.ensures.ok ∙ ap (λ (vs : List Value). vs ++ c.args.value ∷ []) taken.0 in
    then_must s m (Gives (Goes (seen s.texts c.args.value ∷ [])) (frames_of s m)) c.args.left.now c.args.turns.now s (with_parts m c.take_before-before.new.self m.regs m.functions) c.args.left.now c.args.turns.now (focus.Gives (given.Many c.add.new.self))
    c.give_all.new.store c.give_all.new.state c.give_all.new.left c.give_all.new.turns c.give_all.result (rw taken.1 (items_taken s m c.args.left.now c.args.turns.now c.args.rest c.args.value before c.add.new.self more c.requires.state c.requires.value c.requires.newest.1.1 added c.in-None.ensures)) c.give_all.ensures
