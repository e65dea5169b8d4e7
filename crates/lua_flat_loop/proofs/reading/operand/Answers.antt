use Rattle.std.proofs.Common.{sym, subst}
use Rattle.lua_store.specs.declared.value.Value.{Value}
use Rattle.lua_store.specs.Parts.{IsOf}
use Rattle.lua_flat_loop.proofs.CodeSeen.{constant_of}
use Rattle.lua_flat_loop.proofs.reading.operand.Goals as goal

pub returns-then-from-lt-MOST-clause-of : goal.returns-then-from-lt-MOST-clause-of
returns-then-from-lt-MOST-clause-of c = λ s of values. c.value_at.ensures.of s of

pub returns-clause-of : goal.returns-clause-of
returns-clause-of c = λ s of values. subst (λ (v : Value). IsOf s v) (sym c.constant.ensures) (constant_of s c.args.constants.now _ values)
