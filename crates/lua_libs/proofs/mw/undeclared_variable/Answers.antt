use Rattle.std.proofs.Common.{◌∙◌, ap}
use Rattle.lua_basic.specs.LuaMeaningMessages.{undeclared_variable}
use Rattle.lua_libs.proofs.mw.undeclared_variable.Goals as goal

pub returns : goal.returns
returns c = c.in_ok-message.ensures ∙ ap undeclared_variable (c.as_slice.ensures ∙ c.in_ok-name.ensures)
