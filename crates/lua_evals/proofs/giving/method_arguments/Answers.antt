use Rattle.lua_evals.proofs.giving.method_arguments.Goals as goal

pub returns : goal.returns
returns c = λ l. rw (c.as_slice.ensures, c.in_ok-add.ensures.ok, c.new-before.ensures) at (c.wait.ensures l)
