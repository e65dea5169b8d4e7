use Rattle.lua_code.proofs.Views.{expression-Call}
use Rattle.lua_strides.proofs.striding.expression.Goals as goal

pub returns-in-Call : goal.returns-in-Call
returns-in-Call g c = rw (c.in-Call.is, expression-Call) (rw (c.deref.ensures, c.as_slice-arguments.ensures) at c.call.ensures)

pub returns-in_default : goal.returns-in_default
returns-in_default g c = c.give_value.ensures
