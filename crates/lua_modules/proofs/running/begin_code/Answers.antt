use Rattle.lua_modules.proofs.running.begin_code.Goals as goal

pub returns-in-Ok : goal.returns-in-Ok
returns-in-Ok c = λ l. rw c.in-Ok.is (c.begin_text.ensures l)

pub returns-in-Err : goal.returns-in-Err
returns-in-Err c = λ l. rw c.in-Err.is (c.raise_fault.ensures l)
