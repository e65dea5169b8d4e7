use Rattle.std.proofs.Common.{◌∙◌, ap, refl, Err}
use Rattle.std.specs.Prelude.{codes}
use Rattle.std.proofs.lemmas.Result.{err_from_is_err_and}
use Rattle.lua_strings.specs.LuaMeaningArguments.{a_text}
use Rattle.lua_strings.specs.LuaBasicArguments.{text_bytes}
use Rattle.lua_strings.specs.LuaBasicSeen.{values_seen}
use Rattle.lua_strings.proofs.Given.{past, ended}
use Rattle.mw_htmls.proofs.classes.give_called.Goals as goal

pub returns-in_err-name-clause-answer : goal.returns-in_err-name-clause-answer
returns-in_err-name-clause-answer c =
    let p = err_from_is_err_and c.from_residual.result c.from_residual.ensures.1 in
    let s = c.args.store.now in
    ended _ (a_text 2 (codes "getAttr") (values_seen s.texts c.args.given.now)) _ s c.a_text.new.store c.args.left.now c.in_err-name.field-0.0 c.from_residual.result c.in_err-name.ensures.refused refl (p.1 ∙ ap Err p.2)

pub give_value-requires : goal.give_value-requires
give_value-requires c = rw c.in_ok-name.ensures.same c.requires.id

pub returns-clause-answer : goal.returns-clause-answer
returns-clause-answer c =
    let s = c.args.store.now in
    let same = rw c.in_ok-name.ensures.same at c.give_value.ensures.answer in
    let answer = rw c.as_slice.ensures at same in
    past _ (a_text 2 (codes "getAttr") (values_seen s.texts c.args.given.now)) (text_bytes c.in_ok-name.name) _ s c.give_value.new.store c.args.left.now c.give_value.new.left c.give_value.result c.in_ok-name.ensures.found refl answer
