use Rattle.std.proofs.Common.{refl}
use Rattle.lua_basic.proofs.raw.raw_equal.Goals as goal

pub is_same-same-requires-clause-a : goal.is_same-same-requires-clause-a
is_same-same-requires-clause-a c = c.first.ensures.of c.args.store.now c.requires

pub is_same-same-requires-clause-b : goal.is_same-same-requires-clause-b
is_same-same-requires-clause-b c = c.second.ensures.of c.args.store.now c.requires

pub returns-clause-answer : goal.returns-clause-answer
returns-clause-answer c = rw (c.in_ok-values.ensures, c.is_same-same.ensures, c.first.ensures.value c.args.store.now.texts, c.second.ensures.value c.args.store.now.texts) refl
