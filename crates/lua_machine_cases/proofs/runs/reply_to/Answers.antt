use Rattle.std.proofs.Common.{◌≡◌, ap, arith}
use Rattle.lua_machine.specs.LuaStateDeclaredStateState.{State}
use Rattle.lua_machine_cases.proofs.runs.reply_to.Goals as goal

pub returns-clause-calls : goal.returns-clause-calls
returns-clause-calls c =
    let s : c.tell.new.machine.state.calls ≡ c.args.machine.now.state.calls = ap (λ (m : State). m.calls) c.in_ok-tell.ensures.state in
    omega (arith, s, c.change_steps.ensures, c.requires.calls)
