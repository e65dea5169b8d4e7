use Rattle.std.proofs.Common.{refl}
use Rattle.lua_arms.proofs.calls.call.Goals as goal

pub returns-in-Nil-clause-move_ : goal.returns-in-Nil-clause-move_
returns-in-Nil-clause-move_ c = λ fs s h. rw c.in-Nil.is refl

pub returns-in-Bool-clause-move_ : goal.returns-in-Bool-clause-move_
returns-in-Bool-clause-move_ c = λ fs s h. rw c.in-Bool.is refl

pub returns-in-Number-clause-move_ : goal.returns-in-Number-clause-move_
returns-in-Number-clause-move_ c = λ fs s h. rw c.in-Number.is refl

pub returns-in-Text-clause-move_ : goal.returns-in-Text-clause-move_
returns-in-Text-clause-move_ c = λ fs s h. rw c.in-Text.is refl

pub returns-in-Markup-clause-move_ : goal.returns-in-Markup-clause-move_
returns-in-Markup-clause-move_ c = λ fs s h. rw c.in-Markup.is refl
