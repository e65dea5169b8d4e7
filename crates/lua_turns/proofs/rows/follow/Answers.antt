use Rattle.std.proofs.lemmas.Result.{IfOk-weaker}
use Rattle.lua_turns.proofs.Following.{strode_follows}
use Rattle.lua_turns.proofs.rows.follow.Goals as goal

pub give-requires-clause-value : goal.give-requires-clause-value
give-requires-clause-value g c = (rw c.in-Gives.is at c.requires.next).0

pub returns-in-Gives : goal.returns-in-Gives
returns-in-Gives g c = rw c.in-Gives.is c.give.ensures

pub returns-in-GivesAll : goal.returns-in-GivesAll
returns-in-GivesAll g c = rw c.in-GivesAll.is c.call.ensures

pub call-requires-clause-arguments : goal.call-requires-clause-arguments
call-requires-clause-arguments g c = rw c.in-GivesAll.is at c.requires.next

pub returns-in-GivesNone : goal.returns-in-GivesNone
returns-in-GivesNone g c = rw c.in-GivesNone.is c.end.ensures

pub pass-requires-clause-value : goal.pass-requires-clause-value
pass-requires-clause-value g c = (rw c.in-Returns.is at c.requires.next).0

pub returns-in-Returns : goal.returns-in-Returns
returns-in-Returns g c = rw c.in-Returns.is (c.pass.ensures c.args.turns.now)

pub returns-in-Evaluates : goal.returns-in-Evaluates
returns-in-Evaluates g c =
    rw c.in-Evaluates.is
    (IfOk-weaker c.evaluate.result _ _ (λ r e. strode_follows c.args.store.now c.args.state.now _ c.args.left.now c.args.turns.now c.evaluate.new.store c.evaluate.new.state c.evaluate.new.left c.evaluate.new.turns r e) c.evaluate.ensures)

pub set-requires-clause-setting : goal.set-requires-clause-setting
set-requires-clause-setting g c = (rw c.in-Sets.is at c.requires.next).0

pub returns-in-Sets : goal.returns-in-Sets
returns-in-Sets g c = rw c.in-Sets.is (c.set.ensures c.args.turns.now)

pub returns-in-Runs : goal.returns-in-Runs
returns-in-Runs g c = rw c.in-Runs.is c.run.ensures
