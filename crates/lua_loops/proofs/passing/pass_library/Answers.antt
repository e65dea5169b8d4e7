use Rattle.lua_loops.proofs.passing.pass_library.Goals as goal

pub returns : goal.returns
returns c = c.leave_for.ensures
