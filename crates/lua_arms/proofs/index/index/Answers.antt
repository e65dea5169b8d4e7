use Rattle.std.proofs.Common.{refl}
use Rattle.lua_arms.proofs.index.index.Goals as goal

pub returns-in-Nil-clause-move_ : goal.returns-in-Nil-clause-move_
returns-in-Nil-clause-move_ c = λ fs s h k. rw c.in-Nil.is refl

pub returns-in-Bool-clause-move_ : goal.returns-in-Bool-clause-move_
returns-in-Bool-clause-move_ c = λ fs s h k. rw c.in-Bool.is refl

pub returns-in-Number-clause-move_ : goal.returns-in-Number-clause-move_
returns-in-Number-clause-move_ c = λ fs s h k. rw c.in-Number.is refl

pub returns-in-Closure-clause-move_ : goal.returns-in-Closure-clause-move_
returns-in-Closure-clause-move_ c = λ fs s h k. rw c.in-Closure.is refl

pub returns-in-Builtin-clause-move_ : goal.returns-in-Builtin-clause-move_
returns-in-Builtin-clause-move_ c = λ fs s h k. rw c.in-Builtin.is refl

pub returns-in-Markup-clause-move_ : goal.returns-in-Markup-clause-move_
returns-in-Markup-clause-move_ c = λ fs s h k. rw (c.in-Markup.is, c.object_field.ensures.value) refl
