use Rattle.std.proofs.lemmas.Result.{IfOk-weaker}
use Rattle.lua_blocks.proofs.Parts.{first_chosen, second_chosen}
use Rattle.lua_blocks.proofs.conditions.choose_branch.Goals as goal

pub returns-then-is_true-clause-move_ : goal.returns-then-is_true-clause-move_
returns-then-is_true-clause-move_ c = IfOk-weaker c.within.result _ _ (λ r e s h. first_chosen _ _ _ _ (c.if-is_true.ensures c.args.store.now.texts) (e s h)) c.within.ensures.move_

pub returns-clause-move_ : goal.returns-clause-move_
returns-clause-move_ c = IfOk-weaker c.branches.result _ _ (λ r e s h. second_chosen _ _ _ _ (c.if-is_true.ensures c.args.store.now.texts) (e s h)) c.branches.ensures.move_
