use Rattle.lua_turns.proofs.waiting.of_frame.Goals as goal

pub returns-in-Statement : goal.returns-in-Statement
returns-in-Statement c = λ fs h. c.of_statement.ensures fs (rw c.in-Statement.is at h)

pub returns-in-End : goal.returns-in-End
returns-in-End c = λ fs h. c.of_ending.ensures fs (rw c.in-End.is at h)

pub returns-in-Expression : goal.returns-in-Expression
returns-in-Expression c = λ fs h. c.of_expression.ensures fs (rw c.in-Expression.is at h)

pub returns-in-Assignment : goal.returns-in-Assignment
returns-in-Assignment c = λ fs h. c.of_assignment.ensures fs (rw c.in-Assignment.is at h)

pub returns-in-Loop : goal.returns-in-Loop
returns-in-Loop c = λ fs h. c.of_loop.ensures fs (rw c.in-Loop.is at h)

pub returns-in_default : goal.returns-in_default
returns-in_default c = λ fs h. tt
