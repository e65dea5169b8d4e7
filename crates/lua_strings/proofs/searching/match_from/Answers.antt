use Rattle.std.proofs.Common.{◌≡◌, ◌∙◌, ap, refl, Err, pos, codes, rules, w64, to_z, of_z}
use Rattle.std.proofs.lemmas.Result.{err_from_is_err_and}
use Rattle.lua_basic.specs.LuaMeaningValues as meaning
use Rattle.lua_basic.specs.LuaMeaningArguments.{a_text, number_or}
use Rattle.lua_basic.specs.Arguments.{text_bytes}
use Rattle.lua_strings.proofs.Given.{past, ended}
use Rattle.lua_strings.proofs.searching.match_from.Goals as goal

pub a_text-requires-2 : goal.a_text-requires-2
a_text-requires-2 c =
    let s = c.args.store.now in
    rw (c.in_ok-text.ensures.same) (c.rest-others.ensures.of s c.requires)

pub number_or-requires : goal.number_or-requires
number_or-requires c =
    let s = c.args.store.now in
    rw (c.in_ok-pattern.ensures.same ∙ c.in_ok-text.ensures.same) (c.rest.ensures.of s (c.rest-others.ensures.of s c.requires))

pub returns-in_err-text-clause-answer : goal.returns-in_err-text-clause-answer
returns-in_err-text-clause-answer c =
    let p = err_from_is_err_and c.from_residual.result c.from_residual.ensures.1 in
    let s = c.args.store.now in
    ended _ _ _ s c.a_text.new.store c.args.left.now c.in_err-text.field-0.0 c.from_residual.result c.in_err-text.ensures.refused refl (p.1 ∙ ap Err p.2)

pub returns-in_err-pattern-clause-answer : goal.returns-in_err-pattern-clause-answer
returns-in_err-pattern-clause-answer c =
    let p = err_from_is_err_and c.from_residual-in_err-pattern.result c.from_residual-in_err-pattern.ensures.1 in
    let s = c.args.store.now in
    past _ _ (text_bytes c.in_ok-text.text) _ s _ _ _ _ c.in_ok-text.ensures.found refl
    (ended _ _ _ s c.a_text-2.new.store c.args.left.now c.in_err-pattern.field-0.0 c.from_residual-in_err-pattern.result (rw (c.in_ok-text.ensures.same) at c.in_err-pattern.ensures.refused) (ap (a_text 2 (codes "match")) (c.rest-others.ensures.values s.texts)) (p.1 ∙ ap Err p.2))

pub returns-in_err-init-clause-answer : goal.returns-in_err-init-clause-answer
returns-in_err-init-clause-answer c =
    let p = err_from_is_err_and c.from_residual-in_err-init.result c.from_residual-in_err-init.ensures.1 in
    let s = c.args.store.now in
    past _ _ (text_bytes c.in_ok-text.text) _ s _ _ _ _ c.in_ok-text.ensures.found refl
    (past _ _ (text_bytes c.in_ok-pattern.pattern) _ s _ _ _ _ (rw (c.in_ok-text.ensures.same) at c.in_ok-pattern.ensures.found) (ap (a_text 2 (codes "match")) (c.rest-others.ensures.values s.texts))
    (ended _ _ _ s c.number_or.new.store c.args.left.now c.in_err-init.field-0.0 c.from_residual-in_err-init.result (rw (c.in_ok-pattern.ensures.same ∙ c.in_ok-text.ensures.same) at c.in_err-init.ensures.refused) (ap (number_or (pos 1) 3 (codes "match")) (c.rest.ensures.values s.texts ∙ ap meaning.rest (c.rest-others.ensures.values s.texts))) (p.1 ∙ ap Err p.2)))

pub returns-clause-answer : goal.returns-clause-answer
returns-clause-answer c =
    let whole_init : to_z w64 (of_z w64 c.in_ok-init.init) ≡ c.in_ok-init.init = search rules in
    let s = c.args.store.now in
    let answer = rw (c.in_ok-init.ensures.same ∙ c.in_ok-pattern.ensures.same ∙ c.in_ok-text.ensures.same, whole_init, c.as_slice.ensures, c.as_slice-2.ensures) at c.searched.ensures.answer in
    past _ _ (text_bytes c.in_ok-text.text) _ s _ _ _ _ c.in_ok-text.ensures.found refl
    (past _ _ (text_bytes c.in_ok-pattern.pattern) _ s _ _ _ _ (rw (c.in_ok-text.ensures.same) at c.in_ok-pattern.ensures.found) (ap (a_text 2 (codes "match")) (c.rest-others.ensures.values s.texts))
    (past _ _ c.in_ok-init.init _ s _ _ _ _ (rw (c.in_ok-pattern.ensures.same ∙ c.in_ok-text.ensures.same) at c.in_ok-init.ensures.found) (ap (number_or (pos 1) 3 (codes "match")) (c.rest.ensures.values s.texts ∙ ap meaning.rest (c.rest-others.ensures.values s.texts)))
    (answer)))
