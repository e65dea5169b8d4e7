use Rattle.std.proofs.Common.{◌∙◌, ap, pos, codes, Err, rules, ◌≡◌, w64, to_z, of_z}
use Rattle.std.proofs.lemmas.Result.{err_from_is_err_and}
use Rattle.lua_meaning.specs.Arguments.{number_or}
use Rattle.lua_basic.proofs.Found.{stopped, found}
use Rattle.lua_basic.proofs.raising.error.Goals as goal

pub number_or-requires : goal.number_or-requires
number_or-requires c = c.rest.ensures.of c.args.store.now c.requires

pub returns-in_err-level-clause-answer : goal.returns-in_err-level-clause-answer
returns-in_err-level-clause-answer c =
    let p = err_from_is_err_and c.from_residual.result c.from_residual.ensures.1 in
    stopped _ _ _ c.args.store.now c.number_or.new.store c.in_err-level.field-0.0 c.from_residual.result c.in_err-level.ensures.refused
    (ap (number_or (pos 1) 2 (codes "error")) (c.rest.ensures.values c.args.store.now.texts)) (p.1 ∙ ap Err p.2)

pub returns-clause-answer : goal.returns-clause-answer
returns-clause-answer c =
    let level : to_z w64 (of_z w64 c.in_ok-level.level) ≡ c.in_ok-level.level = search rules in
    rw level (rw (c.in_ok-level.ensures.same, c.first.ensures.value c.args.store.now.texts)
    (found _ _ c.in_ok-level.level c.args.store.now.heap _ c.in_ok-level.ensures.found (ap (number_or (pos 1) 2 (codes "error")) (c.rest.ensures.values c.args.store.now.texts))))

pub returns-clause-of : goal.returns-clause-of
returns-clause-of c = rw c.in_ok-level.ensures.same (c.first.ensures.of c.args.store.now c.requires)
