use Rattle.lua_code.proofs.Views.{expression-And, expression-Call, expression-Index, expression-Method, expression-Operate, expression-Or, expression-Paren, expression-Unary}
use Rattle.lua_strides.proofs.Paths.{idle_here}
use Rattle.lua_turns.proofs.rows.begin_expression.Goals as goal

pub returns-in-Operate : goal.returns-in-Operate
returns-in-Operate g c = rw (c.in-Operate.is, expression-Operate) (rw (c.deref.ensures, c.deref-in-Operate.ensures) at c.operator.ensures)

pub returns-in-Unary : goal.returns-in-Unary
returns-in-Unary g c = rw (c.in-Unary.is, expression-Unary) (rw c.deref-in-Unary.ensures at c.unary.ensures)

pub returns-in-And : goal.returns-in-And
returns-in-And g c = rw (c.in-And.is, expression-And) (rw (c.deref-in-And.ensures, c.deref-in-And-2.ensures) at c.deciding.ensures)

pub returns-in-Or : goal.returns-in-Or
returns-in-Or g c = rw (c.in-Or.is, expression-Or) (rw (c.deref-in-Or.ensures, c.deref-in-Or-2.ensures) at c.deciding-in-Or.ensures)

pub returns-in-Paren : goal.returns-in-Paren
returns-in-Paren g c = rw (c.in-Paren.is, expression-Paren) (rw c.deref-in-Paren.ensures at c.begin_paren.ensures c.args.store.now c.requires)

pub returns-in-Index : goal.returns-in-Index
returns-in-Index g c = rw (c.in-Index.is, expression-Index) (rw (c.deref-in-Index.ensures, c.deref-in-Index-2.ensures) at c.index.ensures)

pub returns-in-Call : goal.returns-in-Call
returns-in-Call g c = rw (c.in-Call.is, expression-Call) (rw c.deref-in-Call.ensures at c.call_of.ensures)

pub returns-in-Method : goal.returns-in-Method
returns-in-Method g c = rw (c.in-Method.is, expression-Method) (rw c.deref-in-Method.ensures at c.method.ensures)

pub returns-in_default : goal.returns-in_default
returns-in_default g c = idle_here c.args.store.now c.args.state.now c.args.left.now c.args.turns.now
