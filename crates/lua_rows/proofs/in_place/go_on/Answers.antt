use Rattle.std.proofs.Common.{rules, ◌∙◌, ◌+◌, ◌∷◌, [], List, ap}
use Rattle.lua_code.specs.Seen.{block_seen}
use Rattle.lua_code.specs.LuaSlotsCode.{CallStatC, ThenC}
use Rattle.lua_turns.specs.LuaSlotsPoints.{Runs}
use Rattle.lua_turns.specs.LuaStackDeclaredFrameFrame.{Frame}
use Rattle.lua_turns.specs.LuaStackDeclaredFrameFrameTheVariants as frame
use Rattle.lua_turns.specs.LuaStackDeclaredFrameInStatementTheVariants as in_statement
use Rattle.lua_turns.specs.LuaStateSeen.{frames_of}
use Rattle.lua_rows.proofs.Ended.{begun_turns, frames_same, passed, turned_goes}
use Rattle.lua_rows.proofs.Leading.{statement_leads}
use Rattle.lua_rows.proofs.in_place.go_on.Goals as goal

pub returns-in-Some-GaveOne : goal.returns-in-Some-GaveOne
returns-in-Some-GaveOne g c = λ e ready.
    let s = c.args.store.now in
    let m = c.args.state.now in
    let call = c.args.call in
    let made = rw (c.in-Some-GaveOne.is, c.in-Some-GaveOne.field-0-is) at c.in_ok-made.ensures in
    let left = c.in_ok-leave_call-in-Some-GaveOne.ensures in
    passed s m call.callee c.args.arguments.now (1 + call.nodes) c.args.left.now c.args.turns.now c.make_call.new.store c.make_call.new.state c.make_call.new.left c.make_call.new.turns (c.in-Some-GaveOne.field-0-0 ∷ []) c.leave_call.new.state
    c.leave_call.new.left made left.leaves left.same (Runs (ThenC (CallStatC e) (block_seen c.args.rest.now)) (frames_of s m)) call.line c.args.rest (statement_leads s m e c.args.arguments.now call c.requires.state ready c.args.rest)

pub returns-in-Some-Gave : goal.returns-in-Some-Gave
returns-in-Some-Gave g c = λ e ready.
    let s = c.args.store.now in
    let m = c.args.state.now in
    let call = c.args.call in
    let made = rw (c.in-Some-Gave.is, c.in-Some-Gave.field-0-is) at c.in_ok-made.ensures in
    let left = c.in_ok-leave_call-in-Some-Gave.ensures in
    passed s m call.callee c.args.arguments.now (1 + call.nodes) c.args.left.now c.args.turns.now c.make_call.new.store c.make_call.new.state c.make_call.new.left c.make_call.new.turns c.in-Some-Gave.field-0-0 c.leave_call-in-Some-Gave.new.state
    c.leave_call-in-Some-Gave.new.left made left.leaves left.same (Runs (ThenC (CallStatC e) (block_seen c.args.rest.now)) (frames_of s m)) call.line c.args.rest (statement_leads s m e c.args.arguments.now call c.requires.state ready c.args.rest)

pub returns-in-Some-Stopped : goal.returns-in-Some-Stopped
returns-in-Some-Stopped g c = λ e ready.
    let s = c.args.store.now in
    let m = c.args.state.now in
    let call = c.args.call in
    let t = c.make_call.new.store in
    let n = c.make_call.new.state in
    let l = c.args.left.now in
    let k = c.args.turns.now in
    let i = c.make_call.new.left in
    let j = c.make_call.new.turns in
    let f = frame.Statement (in_statement.StatsNext c.args.rest) in
    let p = Runs (ThenC (CallStatC e) (block_seen c.args.rest.now)) (frames_of s m) in
    let made = rw (c.in-Some-Stopped.is, c.in-Some-Stopped.field-0-is) at c.in_ok-made.ensures in
    turned_goes s m p l k c.go_above.new.store c.go_above.new.state c.go_above.new.left j c.in_ok-turn-in-Some-Stopped.turn c.turned.result
    (begun_turns s m call.callee c.args.arguments.now (1 + call.nodes) l k t n i j c.in-Some-Stopped.begun.value p call.line (f ∷ m.frames) c.push.new.self made (statement_leads s m e c.args.arguments.now call c.requires.state ready c.args.rest)
    (c.in_ok-push-in-Some-Stopped.ensures.ok ∙ ap (λ (fs : List Frame). f ∷ fs) (frames_same s m call.callee c.args.arguments.now (1 + call.nodes) l k t n i j c.in-Some-Stopped.begun.value made))
    c.go_above.new.store c.go_above.new.state c.go_above.new.left c.in_ok-turn-in-Some-Stopped.turn (search rules))
    c.turned.ensures
