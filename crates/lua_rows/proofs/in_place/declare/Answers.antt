use Rattle.std.proofs.Common.{rules, ◌∙◌, ◌+◌, ◌∷◌, List, [], ap, refl}
use Rattle.std.specs.Borrow.{Bor}
use Rattle.lua_code.specs.declared.expression.Expression.{Expression}
use Rattle.lua_code.specs.Seen.{block_seen}
use Rattle.lua_code.specs.LuaSlotsCode.{DeclareC, MoreC, NoC}
use Rattle.lua_turns.specs.LuaSlotsPoints.{Runs}
use Rattle.lua_turns.specs.LuaStackDeclaredFrameFrame.{Frame}
use Rattle.lua_turns.specs.LuaStateSeen.{frames_of}
use Rattle.lua_rows.specs.Declaring.{declaring}
use Rattle.lua_rows.proofs.Ended.{begun_turns, declared, frames_same, turned_goes}
use Rattle.lua_rows.proofs.Leading.{declaration_leads}
use Rattle.lua_rows.proofs.in_place.declare.Goals as goal

pub returns-in_ok-open_first-in-Some-GaveOne : goal.returns-in_ok-open_first-in-Some-GaveOne
returns-in_ok-open_first-in-Some-GaveOne g c = λ e ready.
    let s = c.args.store.now in
    let m = c.args.state.now in
    let call = c.args.call in
    let made = rw (c.in-Some-GaveOne.is, c.in-Some-GaveOne.field-0-is) at c.in_ok-made.ensures in
    let left = c.in_ok-leave_call-in-Some-GaveOne.ensures in
    let opens = c.in_ok-open_first-in-Some-GaveOne.ensures in
    let none : Bor (List Expression) = record { ref_ptr = (0, 0); now = [] } in
    declared s m call.callee c.args.arguments.now (1 + call.nodes) c.args.left.now c.args.turns.now c.make_call.new.store c.make_call.new.state c.make_call.new.left c.make_call.new.turns (c.in-Some-GaveOne.value ∷ []) c.leave_call.new.state
    c.leave_call.new.left made left.leaves left.same (Runs (DeclareC c.args.flags.now (MoreC e NoC) (block_seen c.args.rest.now)) (frames_of s m)) call.line none c.args.flags c.args.rest refl
    (declaration_leads s m e c.args.arguments.now call c.requires.state ready none c.args.flags c.args.rest refl) c.open_first.new.store c.open_first.new.regs opens.later opens.texts opens.of opens.opened

pub returns-in_ok-open_all-in-Some-Gave : goal.returns-in_ok-open_all-in-Some-Gave
returns-in_ok-open_all-in-Some-Gave g c = λ e ready.
    let s = c.args.store.now in
    let m = c.args.state.now in
    let call = c.args.call in
    let made = rw (c.in-Some-Gave.is, c.in-Some-Gave.field-0-is) at c.in_ok-made.ensures in
    let left = c.in_ok-leave_call-in-Some-Gave.ensures in
    let opens = c.in_ok-open_all-in-Some-Gave.ensures in
    let none : Bor (List Expression) = record { ref_ptr = (0, 0); now = [] } in
    declared s m call.callee c.args.arguments.now (1 + call.nodes) c.args.left.now c.args.turns.now c.make_call.new.store c.make_call.new.state c.make_call.new.left c.make_call.new.turns c.in-Some-Gave.list c.leave_call-in-Some-Gave.new.state
    c.leave_call-in-Some-Gave.new.left made left.leaves left.same (Runs (DeclareC c.args.flags.now (MoreC e NoC) (block_seen c.args.rest.now)) (frames_of s m)) call.line none c.args.flags c.args.rest refl
    (declaration_leads s m e c.args.arguments.now call c.requires.state ready none c.args.flags c.args.rest refl) c.open_all.new.store c.open_all.new.regs opens.later opens.texts opens.of.0 (rw c.of_list-values.ensures at opens.opened)

pub returns-in_ok-turn-in-Some-Stopped : goal.returns-in_ok-turn-in-Some-Stopped
returns-in_ok-turn-in-Some-Stopped g c = λ e ready.
    let s = c.args.store.now in
    let m = c.args.state.now in
    let call = c.args.call in
    let t = c.make_call.new.store in
    let n = c.make_call.new.state in
    let l = c.args.left.now in
    let k = c.args.turns.now in
    let i = c.make_call.new.left in
    let j = c.make_call.new.turns in
    let flags = c.args.flags in
    let rest = c.args.rest in
    let p = Runs (DeclareC flags.now (MoreC e NoC) (block_seen rest.now)) (frames_of s m) in
    let waits = c.in_ok-wait_to_declare-in-Some-Stopped.ensures in
    let made = rw (c.in-Some-Stopped.is, c.in-Some-Stopped.field-0-is) at c.in_ok-made.ensures in
    turned_goes s m p l k c.go_above.new.store c.go_above.new.state c.go_above.new.left j c.in_ok-turn-in-Some-Stopped.turn c.turned.result
    (begun_turns s m call.callee c.args.arguments.now (1 + call.nodes) l k t n i j c.in-Some-Stopped.begun.value p call.line (declaring waits.0 flags rest m.frames) c.wait_to_declare.new.frames made
    (declaration_leads s m e c.args.arguments.now call c.requires.state ready waits.0 flags rest waits.1)
    (waits.2 ∙ ap (λ (fs : List Frame). declaring waits.0 flags rest fs) (frames_same s m call.callee c.args.arguments.now (1 + call.nodes) l k t n i j c.in-Some-Stopped.begun.value made))
    c.go_above.new.store c.go_above.new.state c.go_above.new.left c.in_ok-turn-in-Some-Stopped.turn (search rules))
    c.turned.ensures
