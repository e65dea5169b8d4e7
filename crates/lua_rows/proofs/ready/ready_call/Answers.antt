use Rattle.lua_code.proofs.Views.{expression-Call, expression-Method}
use Rattle.lua_rows.proofs.ready.ready_call.Goals as goal

pub returns-else-not-are_plain : goal.returns-else-not-are_plain
returns-else-not-are_plain c = rw (c.in-Call.is, expression-Call) (rw (c.deref.ensures, c.as_slice-arguments.ensures) at c.ready_function.ensures)

pub returns-else-not-are_plain-2 : goal.returns-else-not-are_plain-2
returns-else-not-are_plain-2 c = rw (c.in-Method.is, expression-Method) (rw (c.deref-in-Method.ensures, c.as_slice-arguments-in-Method.ensures) at c.ready_method.ensures)
