use Rattle.std.proofs.Common.{◌≡◌, ◌∙◌, ap, refl, Err, rules, w64, to_z, of_z}
use Rattle.std.proofs.lemmas.Result.{err_from_is_err_and}
use Rattle.lua_basic.specs.LuaMeaningArguments.{a_number}
use Rattle.lua_basic.proofs.Found.{stopped}
use Rattle.lua_strings.proofs.Given.{past_free}
use Rattle.lua_strings.specs.Found.{two_of}
use Rattle.lua_strings.proofs.numbers.of_two.Goals as goal

pub a_number-requires-2 : goal.a_number-requires-2
a_number-requires-2 c =
    let s = c.args.store.now in
    rw (c.in_ok-a.ensures.same) (c.rest.ensures.of s c.requires)

pub returns-in_err-a-clause-answer : goal.returns-in_err-a-clause-answer
returns-in_err-a-clause-answer c =
    let p = err_from_is_err_and c.from_residual.result c.from_residual.ensures.1 in
    let s = c.args.store.now in
    stopped _ _ _ s c.a_number.new.store c.in_err-a.field-0.0 c.from_residual.result c.in_err-a.ensures.refused refl (p.1 ∙ ap Err p.2)

pub returns-in_err-b-clause-answer : goal.returns-in_err-b-clause-answer
returns-in_err-b-clause-answer c =
    let p = err_from_is_err_and c.from_residual-in_err-b.result c.from_residual-in_err-b.ensures.1 in
    let s = c.args.store.now in
    past_free _ _ c.in_ok-a.a _ s c.a_number-2.new.store c.from_residual-in_err-b.result c.in_ok-a.ensures.found refl
    (stopped _ _ _ s c.a_number-2.new.store c.in_err-b.field-0.0 c.from_residual-in_err-b.result (rw (c.in_ok-a.ensures.same) at c.in_err-b.ensures.refused) (ap (a_number 2 c.args.function.now) (c.rest.ensures.values s.texts)) (p.1 ∙ ap Err p.2))

pub returns-clause-answer : goal.returns-clause-answer
returns-clause-answer c =
    let whole_a : to_z w64 (of_z w64 c.in_ok-a.a) ≡ c.in_ok-a.a = search rules in
    let whole_b : to_z w64 (of_z w64 c.in_ok-b.b) ≡ c.in_ok-b.b = search rules in
    let s = c.args.store.now in
    let calc : c.two_of_them.result ≡ two_of c.args.which c.in_ok-a.a c.in_ok-b.b = rw (whole_a, whole_b) at c.two_of_them.ensures in
    let answer = rw (c.in_ok-b.ensures.same ∙ c.in_ok-a.ensures.same, calc) at c.give_number.ensures.answer in
    past_free _ _ c.in_ok-a.a _ s c.give_number.new.store c.give_number.result c.in_ok-a.ensures.found refl
    (past_free _ _ c.in_ok-b.b _ s c.give_number.new.store c.give_number.result (rw (c.in_ok-a.ensures.same) at c.in_ok-b.ensures.found) (ap (a_number 2 c.args.function.now) (c.rest.ensures.values s.texts))
    (answer))
