use Rattle.std.proofs.Common.{refl, ap}
use Rattle.lua_strings.specs.LuaStoreSeen.{StoreView}
use Rattle.mw_html_texts.proofs.giving.give_kept.Goals as goal

pub returns-clause-value : goal.returns-clause-value
returns-clause-value c = rw (c.in_ok-values.ensures, c.in_ok-kept.ensures.there) refl

pub returns-clause-of : goal.returns-clause-of
returns-clause-of c = rw c.in_ok-values.ensures (c.in_ok-kept.ensures.of, tt)

pub returns-clause-heap : goal.returns-clause-heap
returns-clause-heap c = ap (λ (s : StoreView). s.heap) c.in_ok-kept.ensures.added
