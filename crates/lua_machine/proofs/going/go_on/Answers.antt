use Rattle.std.proofs.lemmas.Result.{IfOk-weaker}
use Rattle.std.proofs.Common.{ap, arith}
use Rattle.page_run.specs.WkBaseDeclaredLeftLeft.{Left}
use Rattle.lua_rows.specs.LuaStateDeclaredStateState.{State}
use Rattle.lua_machine.proofs.Loops.{row_goes}
use Rattle.lua_machine.proofs.going.go_on.Goals as goal

pub returns-in-Some : goal.returns-in-Some
returns-in-Some g c =
    IfOk-weaker c.turn_for.result _ _ (λ r is. row_goes c.args.store.now c.args.state.now c.args.next c.args.left.now c.args.turns.now c.strides.new.store c.strides.new.state c.strides.new.left c.strides.new.turns c.in-Some.went r
    (rw c.in-Some.is at c.in_ok-strode.ensures) is) c.turn_for.ensures

pub go_once-requires-clause-state : goal.go_once-requires-clause-state
go_once-requires-clause-state g c =
    let idle = rw c.in-None.is at c.in_ok-strode.ensures in
    rw (idle.store, idle.state) c.requires.state

pub go_once-requires-clause-calls : goal.go_once-requires-clause-calls
go_once-requires-clause-calls g c =
    let idle = rw c.in-None.is at c.in_ok-strode.ensures in
    let left = ap (λ (l : Left). l.calls) idle.left in
    let calls = ap (λ (m : State). m.calls) idle.state in
    omega (arith, left, calls, c.requires.calls)

pub go_once-requires-clause-focus : goal.go_once-requires-clause-focus
go_once-requires-clause-focus g c =
    let idle = rw c.in-None.is at c.in_ok-strode.ensures in
    rw idle.store c.requires.focus

pub go_once-requires-clause-moving : goal.go_once-requires-clause-moving
go_once-requires-clause-moving g c =
    let idle = rw c.in-None.is at c.in_ok-strode.ensures in
    rw idle.state c.requires.moving

pub returns : goal.returns
returns g c =
    let idle = rw c.in-None.is at c.in_ok-strode.ensures in
    rw (idle.store, idle.state, idle.left, idle.counter) at c.go_once.ensures
