use Rattle.std.proofs.Common.{refl}
use Rattle.lua_basic.proofs.choosing.kind.Goals as goal

pub returns-clause-answer : goal.returns-clause-answer
returns-clause-answer c =
    let texts = c.args.store.now.texts in
    rw (c.in_ok-values.ensures, c.in_ok-text.ensures.there, c.kind_of.ensures texts, c.first.ensures.value texts, c.in_ok-text.ensures.added) refl
