use Rattle.lua_blocks.proofs.forms.return_values.Goals as goal

pub returns : goal.returns
returns c = c.values_for.ensures
