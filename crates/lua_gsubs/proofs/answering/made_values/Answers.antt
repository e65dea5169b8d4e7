use Rattle.std.proofs.Common.{refl}
use Rattle.lua_gsubs.proofs.answering.made_values.Goals as goal

pub returns-clause-of : goal.returns-clause-of
returns-clause-of c = rw c.in_ok-values.ensures (c.in_ok-text.ensures.of, (c.in_ok-count.ensures.of c.text.new.self, tt))

pub returns-clause-values : goal.returns-clause-values
returns-clause-values c = rw (c.in_ok-values.ensures, c.in_ok-text.ensures.there, c.in_ok-count.ensures.value c.text.new.self.texts) refl
