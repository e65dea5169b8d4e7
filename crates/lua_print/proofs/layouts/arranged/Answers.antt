use Rattle.std.proofs.Common.{◌∙◌, ap}
use Rattle.lua_print.specs.Layout.{laid, layout_of}
use Rattle.lua_print.proofs.layouts.arranged.Goals as goal

pub returns : goal.returns
unfolding layout_of
returns c = c.in-Ok-laid.ensures ∙ ap laid (c.as_slice-in-Ok-items_of.ensures.value ∙ c.in-Ok-items_of.ensures)
