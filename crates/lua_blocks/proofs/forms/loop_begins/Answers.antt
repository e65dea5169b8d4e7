use Rattle.lua_blocks.proofs.forms.loop_begins.Goals as goal

pub returns : goal.returns
returns c = c.wait_within.ensures
