use Rattle.std.proofs.Common.{◌∙◌, ap}
use Rattle.lua_meaning.specs.Values as meaning
use Rattle.lua_basic.proofs.values.second.Goals as goal

pub returns-clause-of : goal.returns-clause-of
returns-clause-of c = λ s h. c.first.ensures.of s (c.rest.ensures.of s h)

pub returns-clause-value : goal.returns-clause-value
returns-clause-value c = λ texts. c.first.ensures.value texts ∙ ap meaning.first (c.rest.ensures.values texts)
