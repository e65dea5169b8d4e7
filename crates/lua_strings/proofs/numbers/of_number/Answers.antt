use Rattle.std.proofs.Common.{◌≡◌, ◌∙◌, ap, refl, Err, rules, w64, to_z, of_z}
use Rattle.std.proofs.lemmas.Result.{err_from_is_err_and}
use Rattle.lua_basic.proofs.Found.{stopped}
use Rattle.lua_strings.proofs.Given.{past_free}
use Rattle.lua_strings.specs.Found.{one_of}
use Rattle.lua_strings.proofs.numbers.of_number.Goals as goal

pub returns-in_err-n-clause-answer : goal.returns-in_err-n-clause-answer
returns-in_err-n-clause-answer c =
    let p = err_from_is_err_and c.from_residual.result c.from_residual.ensures.1 in
    let s = c.args.store.now in
    stopped _ _ _ s c.a_number.new.store c.in_err-n.field-0.0 c.from_residual.result c.in_err-n.ensures.refused refl (p.1 ∙ ap Err p.2)

pub returns-clause-answer : goal.returns-clause-answer
returns-clause-answer c =
    let whole_n : to_z w64 (of_z w64 c.in_ok-n.n) ≡ c.in_ok-n.n = search rules in
    let s = c.args.store.now in
    let calc : c.one_of_them.result ≡ one_of c.args.which c.in_ok-n.n = rw whole_n at c.one_of_them.ensures in
    let answer = rw (c.in_ok-n.ensures.same, calc) at c.give_number.ensures.answer in
    past_free _ _ c.in_ok-n.n _ s c.give_number.new.store c.give_number.result c.in_ok-n.ensures.found refl
    (answer)
