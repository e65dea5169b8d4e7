use Rattle.lua_code.proofs.Views.{expression-Unary}
use Rattle.lua_rows.proofs.rows.call_in_expression.Goals as goal

pub returns-in-Unary : goal.returns-in-Unary
returns-in-Unary g c = rw (c.in-Unary.is, expression-Unary) (rw c.deref.ensures at c.call_operand.ensures)
