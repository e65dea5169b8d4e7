use Rattle.std.proofs.Common.{refl, ap}
use Rattle.mw_frame_texts.specs.LuaStoreSeen.{StoreView}
use Rattle.mw_ustrings.proofs.giving.text_value.Goals as goal

pub returns-clause-value : goal.returns-clause-value
returns-clause-value c = rw (c.in_ok-values.ensures, c.in_ok-text.ensures.there) refl

pub returns-clause-of : goal.returns-clause-of
returns-clause-of c = rw c.in_ok-values.ensures (c.in_ok-text.ensures.of, tt)

pub returns-clause-heap : goal.returns-clause-heap
returns-clause-heap c = ap (λ (s : StoreView). s.heap) c.in_ok-text.ensures.added
