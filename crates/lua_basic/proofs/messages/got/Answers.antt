use Rattle.std.proofs.Common.{◌∙◌, ap}
use Rattle.lua_meaning.specs.Values.{kind_of}
use Rattle.lua_basic.proofs.Lists.{got-first}
use Rattle.lua_basic.proofs.messages.got.Goals as goal

pub returns : goal.returns
returns c = λ texts. c.kind_of.ensures texts ∙ ap kind_of (c.first.ensures.value texts) ∙ got-first texts c.args.given.now c.if-is_empty.ensures
