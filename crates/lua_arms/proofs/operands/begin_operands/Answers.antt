use Rattle.std.proofs.Common.{refl}
use Rattle.lua_code.proofs.Views.{expression-Call}
use Rattle.lua_arms.proofs.operands.begin_operands.Goals as goal

pub returns-in_ok-push-in-Call-clause-move_ : goal.returns-in_ok-push-in-Call-clause-move_
returns-in_ok-push-in-Call-clause-move_ c = λ constants s.
    rw (c.in-Call.is, expression-Call c.in-Call.called c.in-Call.arguments c.in-Call.line, c.in_ok-push-in-Call.ensures.ok, c.deref-in-Call.ensures) refl
