use Rattle.lua_code.proofs.Views.{statement-Assign, statement-Call, statement-Declare, statement-Return, statement-While}
use Rattle.lua_strides.proofs.Branching.{if_opens}
use Rattle.lua_strides.proofs.Paths.{idle_here}
use Rattle.lua_turns.proofs.rows.begin_statement.Goals as goal

pub returns-in-Some : goal.returns-in-Some
returns-in-Some g c = rw (c.in-Return.is, statement-Return, ← c.as_slice.ensures, c.in-Some.ensures) (c.begin_return.ensures c.args.store.now c.requires)

pub returns-in-None : goal.returns-in-None
returns-in-None g c = idle_here c.args.store.now c.args.state.now c.args.left.now c.args.turns.now

pub returns-in-Call : goal.returns-in-Call
returns-in-Call g c = rw (c.in-Call.is, statement-Call) (c.begin_call_statement.ensures c.args.store.now c.requires)

pub returns-in-While : goal.returns-in-While
returns-in-While g c = rw (c.in-While.is, statement-While) (c.begin_while.ensures c.args.store.now c.requires)

pub returns-in-If : goal.returns-in-If
returns-in-If g c = rw (c.in-If.is, if_opens) (rw c.as_slice-in-If.ensures at c.begin_condition.ensures c.args.store.now c.requires)

pub returns-in-Declare : goal.returns-in-Declare
returns-in-Declare g c = rw (c.in-Declare.is, statement-Declare) (rw (c.as_slice-flags.ensures, c.as_slice-values.ensures) at c.begin_local.ensures c.args.store.now c.requires)

pub returns-in-Assign : goal.returns-in-Assign
returns-in-Assign g c = rw (c.in-Assign.is, statement-Assign) (rw (c.as_slice-targets.ensures, c.as_slice-values-in-Assign.ensures) at c.begin_assignment.ensures)

pub returns-in_default : goal.returns-in_default
returns-in_default g c = idle_here c.args.store.now c.args.state.now c.args.left.now c.args.turns.now
