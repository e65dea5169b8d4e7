use Rattle.lua_blocks.proofs.forms.declare.Goals as goal

pub returns : goal.returns
returns c = λ l. rw (c.as_slice.ensures, c.as_slice-2.ensures, c.new.ensures) at (c.wait.ensures l)
