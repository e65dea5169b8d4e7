use Rattle.lua_blocks.proofs.targets.all_found.Goals as goal

pub returns : goal.returns
returns c = λ l. rw (c.as_slice.ensures, c.new.ensures) at (c.wait.ensures l)
