use Rattle.std.proofs.Common.{refl}
use Rattle.lua_stack.proofs.Stay.{frames_as}
use Rattle.lua_stack.proofs.raising.raise.Goals as goal

pub returns-clause-move_ : goal.returns-clause-move_
returns-clause-move_ c = λ frames of s f. rw (c.in_ok-text.ensures.there, frames_as c.args.store.now c.text.new.self c.in_ok-text.ensures.later frames of) refl
