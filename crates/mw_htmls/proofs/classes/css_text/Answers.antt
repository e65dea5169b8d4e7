use Rattle.std.proofs.Common.{◌∙◌, ap, refl, Err, Some, None}
use Rattle.std.specs.Prelude.{codes}
use Rattle.std.proofs.lemmas.Result.{err_from_is_err_and}
use Rattle.lua_strings.specs.LuaMeaningHtml.{text_if_any}
use Rattle.lua_strings.specs.LuaBasicArguments.{text_bytes}
use Rattle.lua_strings.specs.LuaBasicSeen.{values_seen}
use Rattle.lua_strings.proofs.LuaBasicFound.{stopped}
use Rattle.lua_strings.proofs.Given.{past_free}
use Rattle.mw_htmls.proofs.classes.css_text.Goals as goal

pub returns-in_err-styles-clause-answer : goal.returns-in_err-styles-clause-answer
returns-in_err-styles-clause-answer c =
    let p = err_from_is_err_and c.from_residual.result c.from_residual.ensures.1 in
    let s = c.args.store.now in
    stopped _ (text_if_any 2 (codes "cssText") (values_seen s.texts c.args.given.now)) _ s c.text_if_any.new.store c.in_err-styles.field-0.0 c.from_residual.result c.in_err-styles.ensures.refused refl (p.1 ∙ ap Err p.2)

pub give_styled-requires : goal.give_styled-requires
give_styled-requires c = rw c.in_ok-styles.ensures.same c.requires.id

pub returns-in-Some-clause-answer : goal.returns-in-Some-clause-answer
returns-in-Some-clause-answer c =
    let s = c.args.store.now in
    let found = rw c.in-Some.is at c.in_ok-styles.ensures.found in
    let same = rw c.in_ok-styles.ensures.same at c.give_styled.ensures.answer in
    let answer = rw c.as_slice.ensures at same in
    past_free _ (text_if_any 2 (codes "cssText") (values_seen s.texts c.args.given.now)) (Some (text_bytes c.in-Some.text)) _ s c.give_styled.new.store c.give_styled.result found refl answer

pub give_object-requires : goal.give_object-requires
give_object-requires c = rw c.in_ok-styles.ensures.same c.requires.id

pub returns-in-None-clause-answer : goal.returns-in-None-clause-answer
returns-in-None-clause-answer c =
    let s = c.args.store.now in
    let found = rw c.in-None.is at c.in_ok-styles.ensures.found in
    let answer = rw c.in_ok-styles.ensures.same at c.give_object.ensures.answer in
    past_free _ (text_if_any 2 (codes "cssText") (values_seen s.texts c.args.given.now)) None _ s c.give_object.new.store c.give_object.result found refl answer
