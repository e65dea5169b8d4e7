use Rattle.std.proofs.Common.{◌≡◌, ◌∙◌, ap, refl, Err, negsuc, codes, rules, w64, to_z, of_z}
use Rattle.std.proofs.lemmas.Result.{err_from_is_err_and}
use Rattle.lua_basic.specs.LuaMeaningValues as meaning
use Rattle.lua_basic.specs.LuaMeaningArguments.{a_number, number_or}
use Rattle.lua_basic.specs.Arguments.{text_bytes}
use Rattle.lua_strings.proofs.Given.{past, ended}
use Rattle.lua_string.specs.Places.{sub_of}
use Rattle.lua_strings.specs.Alone.{alone}
use Rattle.lua_strings.proofs.places.sub.Goals as goal

pub a_number-requires : goal.a_number-requires
a_number-requires c =
    let s = c.args.store.now in
    rw (c.in_ok-text.ensures.same) (c.rest-others.ensures.of s c.requires)

pub number_or-requires : goal.number_or-requires
number_or-requires c =
    let s = c.args.store.now in
    rw (c.in_ok-from.ensures.same ∙ c.in_ok-text.ensures.same) (c.rest.ensures.of s (c.rest-others.ensures.of s c.requires))

pub returns-in_err-text-clause-answer : goal.returns-in_err-text-clause-answer
returns-in_err-text-clause-answer c =
    let p = err_from_is_err_and c.from_residual.result c.from_residual.ensures.1 in
    let s = c.args.store.now in
    ended _ _ _ s c.a_text.new.store c.args.left.now c.in_err-text.field-0.0 (alone c.from_residual.result) c.in_err-text.ensures.refused refl (ap alone (p.1 ∙ ap Err p.2))

pub returns-in_err-from-clause-answer : goal.returns-in_err-from-clause-answer
returns-in_err-from-clause-answer c =
    let p = err_from_is_err_and c.from_residual-in_err-from.result c.from_residual-in_err-from.ensures.1 in
    let s = c.args.store.now in
    past _ _ (text_bytes c.in_ok-text.text) _ s _ _ _ _ c.in_ok-text.ensures.found refl
    (ended _ _ _ s c.a_number.new.store c.args.left.now c.in_err-from.field-0.0 (alone c.from_residual-in_err-from.result) (rw (c.in_ok-text.ensures.same) at c.in_err-from.ensures.refused) (ap (a_number 2 (codes "sub")) (c.rest-others.ensures.values s.texts)) (ap alone (p.1 ∙ ap Err p.2)))

pub returns-in_err-to-clause-answer : goal.returns-in_err-to-clause-answer
returns-in_err-to-clause-answer c =
    let p = err_from_is_err_and c.from_residual-in_err-to.result c.from_residual-in_err-to.ensures.1 in
    let s = c.args.store.now in
    past _ _ (text_bytes c.in_ok-text.text) _ s _ _ _ _ c.in_ok-text.ensures.found refl
    (past _ _ c.in_ok-from.from _ s _ _ _ _ (rw (c.in_ok-text.ensures.same) at c.in_ok-from.ensures.found) (ap (a_number 2 (codes "sub")) (c.rest-others.ensures.values s.texts))
    (ended _ _ _ s c.number_or.new.store c.args.left.now c.in_err-to.field-0.0 (alone c.from_residual-in_err-to.result) (rw (c.in_ok-from.ensures.same ∙ c.in_ok-text.ensures.same) at c.in_err-to.ensures.refused) (ap (number_or (negsuc 0) 3 (codes "sub")) (c.rest.ensures.values s.texts ∙ ap meaning.rest (c.rest-others.ensures.values s.texts))) (ap alone (p.1 ∙ ap Err p.2))))

pub returns-clause-answer : goal.returns-clause-answer
returns-clause-answer c =
    let whole_from : to_z w64 (of_z w64 c.in_ok-from.from) ≡ c.in_ok-from.from = search rules in
    let whole_to : to_z w64 (of_z w64 c.in_ok-to.to) ≡ c.in_ok-to.to = search rules in
    let s = c.args.store.now in
    let part : c.part.result.now ≡ sub_of (text_bytes c.in_ok-text.text) c.in_ok-from.from c.in_ok-to.to = rw (c.as_slice.ensures, whole_from, whole_to) at c.part.ensures in
    let answer = rw (c.in_ok-to.ensures.same ∙ c.in_ok-from.ensures.same ∙ c.in_ok-text.ensures.same, part) at c.give_one_text.ensures.answer in
    past _ _ (text_bytes c.in_ok-text.text) _ s _ _ _ _ c.in_ok-text.ensures.found refl
    (past _ _ c.in_ok-from.from _ s _ _ _ _ (rw (c.in_ok-text.ensures.same) at c.in_ok-from.ensures.found) (ap (a_number 2 (codes "sub")) (c.rest-others.ensures.values s.texts))
    (past _ _ c.in_ok-to.to _ s _ _ _ _ (rw (c.in_ok-from.ensures.same ∙ c.in_ok-text.ensures.same) at c.in_ok-to.ensures.found) (ap (number_or (negsuc 0) 3 (codes "sub")) (c.rest.ensures.values s.texts ∙ ap meaning.rest (c.rest-others.ensures.values s.texts)))
    (answer)))
