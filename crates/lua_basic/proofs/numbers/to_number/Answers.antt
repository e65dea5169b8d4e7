use Rattle.std.proofs.Common.{◌≡◌, ◌∙◌, ap, rules, w64, to_z, of_z, Err, subst, sym, pos, codes}
use Rattle.std.proofs.lemmas.Result.{err_from_is_err_and}
use Rattle.lua_meaning.specs.Arguments.{number_or}
use Rattle.lua_basic.specs.Seen.{Free}
use Rattle.lua_basic.proofs.Found.{stopped, found}
use Rattle.lua_basic.proofs.numbers.to_number.Goals as goal

pub number_or-requires : goal.number_or-requires
number_or-requires c = c.rest.ensures.of c.args.store.now c.requires

pub returns-in_err-base-clause-answer : goal.returns-in_err-base-clause-answer
returns-in_err-base-clause-answer c =
    let p = err_from_is_err_and c.from_residual.result c.from_residual.ensures.1 in
    stopped _ _ _ c.args.store.now c.number_or.new.store c.in_err-base.field-0.0 c.from_residual.result c.in_err-base.ensures.refused
    (ap (number_or (pos 10) 2 (codes "tonumber")) (c.rest.ensures.values c.args.store.now.texts)) (p.1 ∙ ap Err p.2)

pub returns-clause-answer : goal.returns-clause-answer
returns-clause-answer c =
    let whole : to_z w64 (of_z w64 c.in_ok-base.base) ≡ c.in_ok-base.base = search rules in
    let base = found _ _ c.in_ok-base.base c.args.store.now.heap _ c.in_ok-base.ensures.found (ap (number_or (pos 10) 2 (codes "tonumber")) (c.rest.ensures.values c.args.store.now.texts)) in
    let answer = rw (whole, c.in_ok-base.ensures.same) at c.in_base.ensures.answer in
    subst (λ q. Free q c.in_base.new.store c.in_base.result) (sym base) answer
