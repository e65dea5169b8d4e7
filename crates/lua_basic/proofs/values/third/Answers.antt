use Rattle.std.proofs.Common.{◌∙◌, ap}
use Rattle.lua_meaning.specs.Values as meaning
use Rattle.lua_basic.proofs.values.third.Goals as goal

pub returns-clause-of : goal.returns-clause-of
returns-clause-of c = λ s h. c.second.ensures.of s (c.rest.ensures.of s h)

pub returns-clause-value : goal.returns-clause-value
returns-clause-value c = λ texts. c.second.ensures.value texts ∙ ap meaning.second (c.rest.ensures.values texts)
