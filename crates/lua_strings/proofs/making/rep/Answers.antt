use Rattle.std.proofs.Common.{◌≡◌, ◌∙◌, ap, refl, Err, codes, rules, w64, to_z, of_z}
use Rattle.std.proofs.lemmas.Result.{err_from_is_err_and}
use Rattle.lua_basic.specs.LuaMeaningArguments.{a_number}
use Rattle.lua_basic.specs.Arguments.{text_bytes}
use Rattle.lua_strings.proofs.Given.{past, ended}
use Rattle.lua_strings.proofs.making.rep.Goals as goal

pub a_number-requires : goal.a_number-requires
a_number-requires c =
    let s = c.args.store.now in
    rw (c.in_ok-text.ensures.same) (c.rest.ensures.of s c.requires)

pub returns-in_err-text-clause-answer : goal.returns-in_err-text-clause-answer
returns-in_err-text-clause-answer c =
    let p = err_from_is_err_and c.from_residual.result c.from_residual.ensures.1 in
    let s = c.args.store.now in
    ended _ _ _ s c.a_text.new.store c.args.left.now c.in_err-text.field-0.0 c.from_residual.result c.in_err-text.ensures.refused refl (p.1 ∙ ap Err p.2)

pub returns-in_err-count-clause-answer : goal.returns-in_err-count-clause-answer
returns-in_err-count-clause-answer c =
    let p = err_from_is_err_and c.from_residual-in_err-count.result c.from_residual-in_err-count.ensures.1 in
    let s = c.args.store.now in
    past _ _ (text_bytes c.in_ok-text.text) _ s _ _ _ _ c.in_ok-text.ensures.found refl
    (ended _ _ _ s c.a_number.new.store c.args.left.now c.in_err-count.field-0.0 c.from_residual-in_err-count.result (rw (c.in_ok-text.ensures.same) at c.in_err-count.ensures.refused) (ap (a_number 2 (codes "rep")) (c.rest.ensures.values s.texts)) (p.1 ∙ ap Err p.2))

pub returns-clause-answer : goal.returns-clause-answer
returns-clause-answer c =
    let whole_count : to_z w64 (of_z w64 c.in_ok-count.count) ≡ c.in_ok-count.count = search rules in
    let s = c.args.store.now in
    let answer = rw (c.in_ok-count.ensures.same ∙ c.in_ok-text.ensures.same, c.as_slice.ensures, whole_count) at c.give_copies.ensures.answer in
    past _ _ (text_bytes c.in_ok-text.text) _ s _ _ _ _ c.in_ok-text.ensures.found refl
    (past _ _ c.in_ok-count.count _ s _ _ _ _ (rw (c.in_ok-text.ensures.same) at c.in_ok-count.ensures.found) (ap (a_number 2 (codes "rep")) (c.rest.ensures.values s.texts))
    (answer))
