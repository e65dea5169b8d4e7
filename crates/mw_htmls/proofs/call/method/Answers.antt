use Rattle.std.proofs.Common.{◌∙◌, ap, refl, Err}
use Rattle.std.proofs.lemmas.Result.{err_from_is_err_and}
use Rattle.lua_strings.specs.LuaMeaningHtml.{an_object}
use Rattle.lua_strings.specs.LuaBasicSeen.{values_seen}
use Rattle.lua_strings.proofs.Given.{past, ended}
use Rattle.mw_htmls.specs.Table.{name_of}
use Rattle.mw_htmls.proofs.call.method.Goals as goal

pub returns-in_err-id-clause-answer : goal.returns-in_err-id-clause-answer
returns-in_err-id-clause-answer c =
    let p = err_from_is_err_and c.from_residual.result c.from_residual.ensures.1 in
    let s = c.args.store.now in
    let none = rw c.name.ensures at c.in_err-id.ensures.refused in
    ended _ (an_object 1 (name_of c.args.which) (values_seen s.texts c.args.args.now)) _ s c.an_object.new.store c.args.left.now c.in_err-id.field-0.0 c.from_residual.result none refl (p.1 ∙ ap Err p.2)

pub method_on-requires-clause-id : goal.method_on-requires-clause-id
method_on-requires-clause-id c = c.in_ok-id.ensures.object

pub method_on-requires-clause-given : goal.method_on-requires-clause-given
method_on-requires-clause-given c = rw c.in_ok-id.ensures.same (c.rest.ensures.of c.args.store.now c.requires)

pub returns-clause-answer : goal.returns-clause-answer
returns-clause-answer c =
    let s = c.args.store.now in
    let found = rw c.name.ensures at c.in_ok-id.ensures.found in
    let same = rw c.in_ok-id.ensures.same at c.method_on.ensures.answer in
    let answer = rw (c.rest.ensures.values s.texts) at same in
    past _ (an_object 1 (name_of c.args.which) (values_seen s.texts c.args.args.now)) c.in_ok-id.id.at _ s c.method_on.new.store c.args.left.now c.method_on.new.left c.method_on.result found refl answer
