use Rattle.lua_code.proofs.Views.{statement-Assign, statement-Declare, statement-Return, statement-Call}
use Rattle.lua_strides.proofs.Paths.{idle_here}
use Rattle.lua_strides.proofs.Branching.{if_opens}
use Rattle.lua_strides.proofs.striding.statement.Goals as goal

pub returns-in-Assign : goal.returns-in-Assign
returns-in-Assign g c = rw (c.in-Assign.is, statement-Assign) (rw (c.as_slice-targets.ensures, c.as_slice-values.ensures) at c.assign_only.ensures)

pub returns-in-Declare : goal.returns-in-Declare
returns-in-Declare g c = rw (c.in-Declare.is, statement-Declare) (rw (c.as_slice-flags.ensures, c.as_slice-values-in-Declare.ensures) at c.declare_only.ensures)

pub returns-in-Return : goal.returns-in-Return
returns-in-Return g c = rw (c.in-Return.is, statement-Return) (rw c.as_slice-values-in-Return.ensures at c.return_only.ensures)

pub returns-in-Call : goal.returns-in-Call
returns-in-Call g c = rw (c.in-Call.is, statement-Call) c.call_only.ensures

pub returns-in-If : goal.returns-in-If
returns-in-If g c = rw (c.in-If.is, if_opens) (rw c.as_slice-branches.ensures at c.condition.ensures)

pub returns-in_default : goal.returns-in_default
returns-in_default g c = idle_here c.args.store.now c.args.state.now c.args.left.now c.args.turns.now
