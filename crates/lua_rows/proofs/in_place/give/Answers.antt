use Rattle.std.proofs.Common.{rules, ◌∷◌, [], refl}
use Rattle.lua_turns.specs.LuaStackDeclaredFocusFocusTheVariants as focus
use Rattle.lua_turns.specs.LuaStackDeclaredValuesGivenTheVariants as given
use Rattle.lua_turns.specs.LuaSlotsPoints.{Evals}
use Rattle.lua_turns.specs.LuaStateSeen.{frames_of}
use Rattle.lua_turns.specs.LuaStridesNext.{focus_of}
use Rattle.lua_rows.proofs.Ended.{begun_turns, frames_same, handed, turned_goes}
use Rattle.lua_rows.proofs.Leading.{expression_leads}
use Rattle.lua_rows.proofs.in_place.give.Goals as goal

pub returns-in_ok-leave_call-in-Some-GaveOne : goal.returns-in_ok-leave_call-in-Some-GaveOne
returns-in_ok-leave_call-in-Some-GaveOne g c = λ e ready.
    let s = c.args.store.now in
    let m = c.args.state.now in
    let call = c.args.call in
    let v = c.in-Some-GaveOne.value in
    let made = rw (c.in-Some-GaveOne.is, c.in-Some-GaveOne.field-0-is) at c.in_ok-made.ensures in
    let left = c.in_ok-leave_call-in-Some-GaveOne.ensures in
    handed s m call.callee c.args.arguments.now call.nodes c.args.left.now c.args.turns.now c.make_call.new.store c.make_call.new.state c.make_call.new.left c.make_call.new.turns (v ∷ []) c.leave_call.new.state c.leave_call.new.left
    made left.leaves left.same (Evals e (frames_of s m)) call.line (focus.Gives (given.One v)) (expression_leads s m e c.args.arguments.now call c.requires.state ready) made.of (λ fs. refl)

pub returns-in_ok-leave_call-in-Some-Gave : goal.returns-in_ok-leave_call-in-Some-Gave
returns-in_ok-leave_call-in-Some-Gave g c = λ e ready.
    let s = c.args.store.now in
    let m = c.args.state.now in
    let call = c.args.call in
    let t = c.make_call.new.store in
    let made = rw (c.in-Some-Gave.is, c.in-Some-Gave.field-0-is) at c.in_ok-made.ensures in
    let left = c.in_ok-leave_call-in-Some-Gave.ensures in
    handed s m call.callee c.args.arguments.now call.nodes c.args.left.now c.args.turns.now t c.make_call.new.state c.make_call.new.left c.make_call.new.turns c.in-Some-Gave.values c.leave_call-in-Some-Gave.new.state c.leave_call-in-Some-Gave.new.left
    made left.leaves left.same (Evals e (frames_of s m)) call.line (focus_of c.next_of.result) (expression_leads s m e c.args.arguments.now call c.requires.state ready) (c.next_of.ensures.of t made.of) (c.next_of.ensures.gives t)

pub returns-in_ok-turn-in-Some-Stopped : goal.returns-in_ok-turn-in-Some-Stopped
returns-in_ok-turn-in-Some-Stopped g c = λ e ready.
    let s = c.args.store.now in
    let m = c.args.state.now in
    let call = c.args.call in
    let t = c.make_call.new.store in
    let n = c.make_call.new.state in
    let l = c.args.left.now in
    let k = c.args.turns.now in
    let i = c.make_call.new.left in
    let j = c.make_call.new.turns in
    let p = Evals e (frames_of s m) in
    let made = rw (c.in-Some-Stopped.is, c.in-Some-Stopped.field-0-is) at c.in_ok-made.ensures in
    turned_goes s m p l k c.go_above.new.store c.go_above.new.state c.go_above.new.left j c.in_ok-turn-in-Some-Stopped.turn c.turned.result
    (begun_turns s m call.callee c.args.arguments.now call.nodes l k t n i j c.in-Some-Stopped.begun.value p call.line m.frames n.frames made (expression_leads s m e c.args.arguments.now call c.requires.state ready)
    (frames_same s m call.callee c.args.arguments.now call.nodes l k t n i j c.in-Some-Stopped.begun.value made) c.go_above.new.store c.go_above.new.state c.go_above.new.left c.in_ok-turn-in-Some-Stopped.turn (search rules))
    c.turned.ensures
