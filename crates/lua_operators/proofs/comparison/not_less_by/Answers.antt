use Rattle.lua_arms.proofs.Choices.{second}
use Rattle.lua_operators.proofs.comparison.not_less_by.Goals as goal

pub returns-clause-move_ : goal.returns-clause-move_
returns-clause-move_ c = λ s h. second _ _ _ _ (c.if-is_nil.ensures c.args.store.now.texts) (c.in_ok-step.ensures.move_ s h)
