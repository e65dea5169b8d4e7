use Rattle.lua_blocks.proofs.forms.each.Goals as goal

pub returns : goal.returns
returns c = λ l. rw c.as_slice.ensures at (c.values_for.ensures l)
