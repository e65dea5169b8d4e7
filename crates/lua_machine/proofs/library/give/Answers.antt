use Rattle.std.proofs.lemmas.Result.{IfOk-weaker}
use Rattle.lua_environment.specs.LuaStackDeclaredFocusFocusTheVariants as focus
use Rattle.lua_machine.proofs.Loops.{move_goes}
use Rattle.lua_machine.proofs.library.give.Goals as goal

pub call-requires-clause-newest : goal.call-requires-clause-newest
call-requires-clause-newest g c = rw c.in-Some.is at c.called.ensures

pub returns-in-Some : goal.returns-in-Some
returns-in-Some g c = c.call.ensures

pub returns-in-None : goal.returns-in-None
returns-in-None g c =
    IfOk-weaker c.turn.result _ _
    (λ r e. move_goes c.args.store.now c.args.state.now (focus.Gives c.args.values) c.args.left.now c.args.turns.now c.turn.new.store c.turn.new.state c.turn.new.left c.turn.new.turns r c.requires.state c.requires.values c.requires.moving e)
    c.turn.ensures
