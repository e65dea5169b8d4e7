use Rattle.std.proofs.Common.{◌∙◌, ap}
use Rattle.lua_basic.specs.LuaMeaningMessages.{undeclared_target}
use Rattle.lua_libs.proofs.mw.undeclared_target.Goals as goal

pub returns : goal.returns
returns c = c.in_ok-message.ensures ∙ ap undeclared_target (c.as_slice.ensures ∙ c.in_ok-name.ensures)
