use Rattle.lua_code.specs.Seen.{block_seen}
use Rattle.lua_code.proofs.Views.{statement-Assign, statement-Call, statement-Do, statement-While, statement-Repeat, statement-Each, statement-Return, statement-Break, statement-Declare, statement-LocalFunction}
use Rattle.lua_state.specs.Seen.{slots_of, frames_of}
use Rattle.lua_blocks.proofs.Blocks.{if_begins, count_begins}
use Rattle.lua_blocks.proofs.statements.begin.Goals as goal

pub returns-in-Assign : goal.returns-in-Assign
returns-in-Assign c = rw (c.in-Assign.is, statement-Assign c.in-Assign.targets c.in-Assign.values (block_seen c.args.rest.now)) (c.assign.ensures c.args.left.now)

pub returns-in-Call : goal.returns-in-Call
returns-in-Call c = rw (c.in-Call.is, statement-Call c.in-Call.e (block_seen c.args.rest.now)) (c.then.ensures c.args.left.now)

pub returns-in-Do : goal.returns-in-Do
returns-in-Do c = rw (c.in-Do.is, statement-Do c.in-Do.body (block_seen c.args.rest.now)) (c.block.ensures c.args.left.now)

pub returns-in-While : goal.returns-in-While
returns-in-While c = rw (c.in-While.is, statement-While c.in-While.test c.in-While.body (block_seen c.args.rest.now)) (c.loop_begins.ensures c.args.left.now)

pub returns-in-Repeat : goal.returns-in-Repeat
returns-in-Repeat c = rw (c.in-Repeat.is, statement-Repeat c.in-Repeat.body c.in-Repeat.test (block_seen c.args.rest.now)) (c.repeat.ensures c.args.left.now)

pub returns-in-If : goal.returns-in-If
returns-in-If c = rw (c.in-If.is, if_begins c.in-If.arms c.in-If.other c.args.rest.now (frames_of c.args.store.now c.args.state.now) (slots_of c.args.store.now c.args.state.now)) c.condition.ensures

pub returns-in-Count : goal.returns-in-Count
returns-in-Count c =
    rw (c.in-Count.is, count_begins c.in-Count.boxed c.in-Count.from c.in-Count.to c.in-Count.by c.in-Count.body c.in-Count.line c.args.rest.now (frames_of c.args.store.now c.args.state.now) (slots_of c.args.store.now c.args.state.now))
    (c.count.ensures c.args.left.now)

pub returns-in-Each : goal.returns-in-Each
returns-in-Each c = rw (c.in-Each.is, statement-Each c.in-Each.flags c.in-Each.values c.in-Each.body c.in-Each.line (block_seen c.args.rest.now)) (c.each.ensures c.args.left.now)

pub returns-in-Return : goal.returns-in-Return
returns-in-Return c = rw (c.in-Return.is, statement-Return c.in-Return.values (block_seen c.args.rest.now)) (c.return_values.ensures c.args.left.now)

pub returns-in-Break : goal.returns-in-Break
returns-in-Break c = rw (c.in-Break.is, statement-Break (block_seen c.args.rest.now)) (c.then-in-Break.ensures c.args.left.now)

pub returns-in-Declare : goal.returns-in-Declare
returns-in-Declare c = rw (c.in-Declare.is, statement-Declare c.in-Declare.flags c.in-Declare.values (block_seen c.args.rest.now)) (c.declare.ensures c.args.left.now)

pub returns-in-LocalFunction : goal.returns-in-LocalFunction
returns-in-LocalFunction c =
    rw (c.in-LocalFunction.is, statement-LocalFunction c.in-LocalFunction.boxed c.in-LocalFunction.index c.in-LocalFunction.places (block_seen c.args.rest.now), ← c.as_slice-places.ensures) c.local_function.ensures
