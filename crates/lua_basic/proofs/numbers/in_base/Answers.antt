use Rattle.std.proofs.Common.{◌∙◌, ap, refl, Err, pos, of_z, w64}
use Rattle.std.proofs.lemmas.Result.{err_from_is_err_and}
use Rattle.lua_basic.proofs.Counts.{int-differs}
use Rattle.lua_basic.proofs.Found.{stopped}
use Rattle.lua_basic.proofs.numbers.in_base.Goals as goal

pub number_in-number-requires : goal.number_in-number-requires
number_in-number-requires c = c.first.ensures.of c.args.store.now c.requires

pub returns-then-base-eq10-clause-of : goal.returns-then-base-eq10-clause-of
returns-then-base-eq10-clause-of c = rw c.in_ok-values.ensures (c.number_or_nil.ensures.of c.args.store.now, tt)

pub returns-in_err-text-clause-answer : goal.returns-in_err-text-clause-answer
returns-in_err-text-clause-answer c =
    let p = err_from_is_err_and c.from_residual-in_err-text.result c.from_residual-in_err-text.ensures.1 in
    rw (int-differs c.args.base (pos 10) (λ e. c.if-base-eq10.false (ap (of_z w64) e)))
    (stopped _ _ _ c.args.store.now c.a_text.new.store c.in_err-text.field-0.0 c.from_residual-in_err-text.result c.in_err-text.ensures.refused refl (p.1 ∙ ap Err p.2))
