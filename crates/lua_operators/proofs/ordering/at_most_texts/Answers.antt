use Rattle.std.proofs.Common.{not, refl, ap}
use Rattle.lua_operators.proofs.Charges.{order_pays, less_at}
use Rattle.lua_operators.proofs.ordering.at_most_texts.Goals as goal

pub returns-clause-move_ : goal.returns-clause-move_
returns-clause-move_ c = λ fs s in_progress tally.
    order_pays _ _ _ _ _ _ fs s in_progress tally c.args.left.now c.take_shorter.new.left _ c.bytes-a.ensures c.bytes-b.ensures (ap not (less_at _ _ _ _ c.text_less.result c.bytes-b.ensures c.bytes-a.ensures c.text_less.ensures))
    (c.if-not-take_shorter.ensures.covered.0 refl) c.take_shorter.ensures.rest (c.answer.ensures.move_ c.args.store.now fs s)

pub returns-clause-of : goal.returns-clause-of
returns-clause-of c = c.answer.ensures.of c.args.store.now
