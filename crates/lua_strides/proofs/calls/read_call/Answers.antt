use Rattle.lua_strides.proofs.calls.read_call.Goals as goal

pub returns-in-Some-all : goal.returns-in-Some-all
returns-in-Some-all c = (rw c.in-Some.is at c.read.ensures, rw c.in-Some-all.is at c.in_ok-all-in-Some.ensures)
