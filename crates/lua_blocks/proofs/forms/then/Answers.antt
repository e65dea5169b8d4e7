use Rattle.lua_blocks.proofs.forms.then.Goals as goal

pub returns : goal.returns
returns c = c.wait.ensures
