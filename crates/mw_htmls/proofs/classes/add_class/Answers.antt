use Rattle.std.proofs.Common.{◌∙◌, ap, refl, Err, Some, None}
use Rattle.std.specs.Prelude.{codes}
use Rattle.std.proofs.lemmas.Result.{err_from_is_err_and}
use Rattle.lua_strings.specs.LuaMeaningHtml.{text_if_any}
use Rattle.lua_strings.specs.LuaBasicArguments.{text_bytes}
use Rattle.lua_strings.specs.LuaBasicSeen.{values_seen}
use Rattle.lua_strings.proofs.LuaBasicFound.{for_nothing}
use Rattle.lua_strings.proofs.Given.{past, ended}
use Rattle.mw_htmls.proofs.classes.add_class.Goals as goal

pub returns-in_err-class-clause-answer : goal.returns-in_err-class-clause-answer
returns-in_err-class-clause-answer c =
    let p = err_from_is_err_and c.from_residual.result c.from_residual.ensures.1 in
    let s = c.args.store.now in
    ended _ (text_if_any 2 (codes "addClass") (values_seen s.texts c.args.given.now)) _ s c.text_if_any.new.store c.args.left.now c.in_err-class.field-0.0 c.from_residual.result c.in_err-class.ensures.refused refl (p.1 ∙ ap Err p.2)

pub give_classes-requires : goal.give_classes-requires
give_classes-requires c = rw c.in_ok-class.ensures.same c.requires.id

pub returns-in-Some-clause-answer : goal.returns-in-Some-clause-answer
returns-in-Some-clause-answer c =
    let s = c.args.store.now in
    let found = rw c.in-Some.is at c.in_ok-class.ensures.found in
    let same = rw c.in_ok-class.ensures.same at c.give_classes.ensures.answer in
    let answer = rw c.as_slice.ensures at same in
    past _ (text_if_any 2 (codes "addClass") (values_seen s.texts c.args.given.now)) (Some (text_bytes c.in-Some.text)) _ s c.give_classes.new.store c.args.left.now c.give_classes.new.left c.give_classes.result found refl answer

pub give_object-requires : goal.give_object-requires
give_object-requires c = rw c.in_ok-class.ensures.same c.requires.id

pub returns-in-None-clause-answer : goal.returns-in-None-clause-answer
returns-in-None-clause-answer c =
    let s = c.args.store.now in
    let found = rw c.in-None.is at c.in_ok-class.ensures.found in
    let answer = rw c.in_ok-class.ensures.same at c.give_object.ensures.answer in
    past _ (text_if_any 2 (codes "addClass") (values_seen s.texts c.args.given.now)) None _ s c.give_object.new.store c.args.left.now c.args.left.now c.give_object.result found refl
    (for_nothing _ s c.give_object.new.store c.args.left.now c.give_object.result answer)
