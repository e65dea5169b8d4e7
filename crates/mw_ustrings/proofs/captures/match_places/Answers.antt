use Rattle.std.proofs.Common.{refl}
use Rattle.mw_ustrings.proofs.captures.match_places.Goals as goal

pub returns-clause-of : goal.returns-clause-of
returns-clause-of c = λ t. rw c.in_ok-values.ensures (c.in_ok-first.ensures.of t, (c.in_ok-last.ensures.of t, tt))

pub returns-clause-values : goal.returns-clause-values
returns-clause-values c = λ texts. rw (c.in_ok-values.ensures, c.in_ok-first.ensures.value texts, c.in_ok-last.ensures.value texts) refl
