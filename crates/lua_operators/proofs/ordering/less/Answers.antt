use Rattle.std.proofs.Common.{◌≡◌, ap, rules, w64, to_z, of_z}
use Rattle.lua_arms.specs.LuaSlotsPoints.{Move}
use Rattle.lua_code.specs.LuaSlotsEnact.{enact}
use Rattle.lua_operators.proofs.Orders.{less_as, less_numbers}
use Rattle.lua_operators.proofs.ordering.less.Goals as goal

pub returns-in-Numbers-clause-move_ : goal.returns-in-Numbers-clause-move_
returns-in-Numbers-clause-move_ c = λ s in_progress tally h.
    let first : to_z w64 (of_z w64 c.in-Numbers.a) ≡ c.in-Numbers.a = search rules in
    let second : to_z w64 (of_z w64 c.in-Numbers.b) ≡ c.in-Numbers.b = search rules in
    less_numbers c.args.store.now.texts c.args.operands.0 c.args.operands.1 _ c.in-Numbers.a c.in-Numbers.b _ _ c.args.line _ s _ _ c.order_of.ensures c.in-Numbers.is first second
    (ap (λ (m : Move). enact m (record { left = c.args.left.now; in_progress = in_progress; tally = tally })) (c.answer.ensures.move_ c.args.store.now _ s))

pub returns-in-Texts-clause-move_ : goal.returns-in-Texts-clause-move_
returns-in-Texts-clause-move_ c = λ s in_progress tally h.
    less_as c.args.store.now.texts c.args.operands.0 c.args.operands.1 _ _ c.args.line _ s _ _ c.order_of.ensures c.in-Texts.is (c.less_texts.ensures.move_ _ s in_progress tally)

pub returns-in_ok-step-in-Others-clause-move_ : goal.returns-in_ok-step-in-Others-clause-move_
returns-in_ok-step-in-Others-clause-move_ c = λ s in_progress tally h.
    less_as c.args.store.now.texts c.args.operands.0 c.args.operands.1 _ _ c.args.line _ s _ _ c.order_of.ensures c.in-Others.is
    (ap (λ (m : Move). enact m (record { left = c.args.left.now; in_progress = in_progress; tally = tally })) (c.in_ok-step-in-Others.ensures.move_ s h))

pub returns-in-Numbers-clause-of : goal.returns-in-Numbers-clause-of
returns-in-Numbers-clause-of c = (c.answer.ensures.of c.args.store.now, c.requires.frames)
