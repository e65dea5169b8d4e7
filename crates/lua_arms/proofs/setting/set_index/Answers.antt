use Rattle.std.proofs.Common.{refl}
use Rattle.lua_arms.proofs.setting.set_index.Goals as goal

pub returns-in-Nil-clause-move_ : goal.returns-in-Nil-clause-move_
returns-in-Nil-clause-move_ c = λ fs s in_progress tally h. rw (c.in-Nil.is, ← h) refl

pub returns-in-Bool-clause-move_ : goal.returns-in-Bool-clause-move_
returns-in-Bool-clause-move_ c = λ fs s in_progress tally h. rw (c.in-Bool.is, ← h) refl

pub returns-in-Number-clause-move_ : goal.returns-in-Number-clause-move_
returns-in-Number-clause-move_ c = λ fs s in_progress tally h. rw (c.in-Number.is, ← h) refl

pub returns-in-Text-clause-move_ : goal.returns-in-Text-clause-move_
returns-in-Text-clause-move_ c = λ fs s in_progress tally h. rw (c.in-Text.is, ← h) refl

pub returns-in-Closure-clause-move_ : goal.returns-in-Closure-clause-move_
returns-in-Closure-clause-move_ c = λ fs s in_progress tally h. rw (c.in-Closure.is, ← h) refl

pub returns-in-Builtin-clause-move_ : goal.returns-in-Builtin-clause-move_
returns-in-Builtin-clause-move_ c = λ fs s in_progress tally h. rw (c.in-Builtin.is, ← h) refl

pub returns-in-Markup-clause-move_ : goal.returns-in-Markup-clause-move_
returns-in-Markup-clause-move_ c = λ fs s in_progress tally h. rw (c.in-Markup.is, ← h) refl
