use Rattle.std.proofs.Common.{◌∙◌, ap, refl}
use Rattle.lua_code.specs.Seen.{expression_seen}
use Rattle.lua_code.proofs.Views.{expression-Truth, expression-Number}
use Rattle.lua_flat_code.proofs.conditions.is_true.Goals as goal

pub returns-in-Truth : goal.returns-in-Truth
returns-in-Truth c = λ h. (_, ap expression_seen c.in-Truth.is ∙ expression-Truth _, h)

pub returns-in-Number : goal.returns-in-Number
returns-in-Number c = λ h. (_, ap expression_seen c.in-Number.is ∙ expression-Number _, refl)
