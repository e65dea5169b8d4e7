use Rattle.lua_blocks.proofs.forms.assign.Goals as goal

pub returns : goal.returns
returns c = λ l. rw (c.as_slice.ensures, c.new.ensures) at (c.then.ensures l)
