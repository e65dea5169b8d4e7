use Rattle.std.proofs.lemmas.Result.{IfOk-weaker}
use Rattle.lua_machine.proofs.frames.give_frame.Goals as goal

pub returns-in-Expression : goal.returns-in-Expression
returns-in-Expression c = rw c.in-Expression.is c.give_expression.ensures

pub returns-in-Constructor : goal.returns-in-Constructor
returns-in-Constructor c = rw c.in-Constructor.is c.give_constructor.ensures

pub returns-in-Assignment : goal.returns-in-Assignment
returns-in-Assignment c = rw c.in-Assignment.is c.give_assignment.ensures

pub returns-in-Statement : goal.returns-in-Statement
returns-in-Statement c = rw c.in-Statement.is c.give_statement.ensures

pub returns-in-Loop : goal.returns-in-Loop
returns-in-Loop c = rw c.in-Loop.is c.give_loop.ensures

pub returns-in-End : goal.returns-in-End
returns-in-End c = rw c.in-End.is c.give_end.ensures

pub returns-in-Waits : goal.returns-in-Waits
returns-in-Waits c = rw c.in-Waits.is (IfOk-weaker c.resume.result _ _ (λ r e world. e) c.resume.ensures)

pub returns-in-Hears : goal.returns-in-Hears
returns-in-Hears c = rw c.in-Hears.is (IfOk-weaker c.hear.result _ _ (λ r e world. e) c.hear.ensures)

pub returns-in-Run : goal.returns-in-Run
returns-in-Run c = rw c.in-Run.is c.give_run.ensures
