use Rattle.lua_blocks.proofs.forms.repeat.Goals as goal

pub returns : goal.returns
returns c = c.then.ensures
