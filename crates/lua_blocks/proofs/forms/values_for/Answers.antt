use Rattle.lua_blocks.proofs.forms.values_for.Goals as goal

pub returns : goal.returns
returns c = λ l. rw (c.as_slice.ensures, c.new.ensures) at (c.wait_within.ensures l)
