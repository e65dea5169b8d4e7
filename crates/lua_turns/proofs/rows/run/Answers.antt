use Rattle.std.proofs.lemmas.Result.{IfOk-weaker}
use Rattle.lua_turns.proofs.Following.{at_end, strode_follows}
use Rattle.lua_turns.proofs.rows.run.Goals as goal

pub returns-in-Some : goal.returns-in-Some
returns-in-Some g c =
    rw c.in-Some.ensures
    (IfOk-weaker c.execute.result _ _ (λ r e. strode_follows c.args.store.now c.args.state.now _ c.args.left.now c.args.turns.now c.execute.new.store c.execute.new.state c.execute.new.left c.execute.new.turns r e) c.execute.ensures)

pub returns-in-None : goal.returns-in-None
returns-in-None g c =
    rw c.in-None.ensures
    (IfOk-weaker c.end.result _ _ (λ r e. at_end c.args.store.now c.args.state.now c.args.left.now c.args.turns.now c.end.new.store c.end.new.state c.end.new.left c.end.new.turns r e) c.end.ensures)
