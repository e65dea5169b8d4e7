use Rattle.std.proofs.lemmas.Result.{IfOk-weaker}
use Rattle.lua_machine.proofs.Loops.{move_goes}
use Rattle.lua_machine.proofs.library.call_or_move.Goals as goal

pub give-requires-clause-values : goal.give-requires-clause-values
give-requires-clause-values g c = rw c.in-Gives.is at c.requires.focus

pub give-requires-clause-moving : goal.give-requires-clause-moving
give-requires-clause-moving g c = rw c.in-Gives.is at c.requires.moving

pub returns-in-Gives : goal.returns-in-Gives
returns-in-Gives g c = rw c.in-Gives.is c.give.ensures

pub returns-in_default : goal.returns-in_default
returns-in_default g c =
    IfOk-weaker c.turn.result _ _
    (λ r e. move_goes c.args.store.now c.args.state.now c.args.next c.args.left.now c.args.turns.now c.turn.new.store c.turn.new.state c.turn.new.left c.turn.new.turns r c.requires.state c.requires.focus c.requires.moving e)
    c.turn.ensures
