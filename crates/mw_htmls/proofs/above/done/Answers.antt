use Rattle.std.proofs.Common.{refl}
use Rattle.mw_htmls.proofs.Changed.{object_given}
use Rattle.mw_htmls.proofs.above.done.Goals as goal

pub returns-clause-answer : goal.returns-clause-answer
returns-clause-answer c = object_given c.args.store.now.heap c.args.store.now _ c.above-object.result c.in_ok-values.values refl c.above-object.ensures.above c.in_ok-values.ensures

pub returns-clause-of : goal.returns-clause-of
returns-clause-of c = rw c.in_ok-values.ensures (c.above-object.ensures.of, tt)
