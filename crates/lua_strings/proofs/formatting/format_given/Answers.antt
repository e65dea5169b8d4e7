use Rattle.std.proofs.Common.{◌∙◌, ap, refl, Err}
use Rattle.std.proofs.lemmas.Result.{err_from_is_err_and}
use Rattle.lua_basic.specs.Arguments.{text_bytes}
use Rattle.lua_strings.proofs.Given.{past, ended}
use Rattle.lua_strings.proofs.formatting.format_given.Goals as goal

pub returns-in_err-spec-clause-answer : goal.returns-in_err-spec-clause-answer
returns-in_err-spec-clause-answer c =
    let p = err_from_is_err_and c.from_residual.result c.from_residual.ensures.1 in
    let s = c.args.store.now in
    ended _ _ _ s c.a_text.new.store c.args.left.now c.in_err-spec.field-0.0 c.from_residual.result c.in_err-spec.ensures.refused refl (p.1 ∙ ap Err p.2)

pub returns-clause-answer : goal.returns-clause-answer
returns-clause-answer c =
    let s = c.args.store.now in
    let answer = rw (c.in_ok-spec.ensures.same, c.as_slice.ensures, c.rest.ensures.values s.texts) at c.format_by.ensures.answer in
    past _ _ (text_bytes c.in_ok-spec.spec) _ s _ _ _ _ c.in_ok-spec.ensures.found refl
    (answer)

pub format_by-requires : goal.format_by-requires
format_by-requires c = rw c.in_ok-spec.ensures.same (c.rest.ensures.of c.args.store.now c.requires)
