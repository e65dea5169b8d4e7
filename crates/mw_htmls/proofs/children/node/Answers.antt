use Rattle.std.proofs.Common.{◌∙◌, ap, refl, Err}
use Rattle.std.proofs.lemmas.Result.{err_from_is_err_and}
use Rattle.lua_strings.specs.LuaMeaningHtml.{a_child}
use Rattle.lua_strings.specs.LuaBasicSeen.{values_seen}
use Rattle.lua_strings.proofs.LuaBasicFound.{stopped}
use Rattle.lua_strings.proofs.Given.{past_free}
use Rattle.mw_htmls.specs.Found.{child_found}
use Rattle.mw_htmls.proofs.children.node.Goals as goal

pub returns-in_err-child-clause-answer : goal.returns-in_err-child-clause-answer
returns-in_err-child-clause-answer c =
    let p = err_from_is_err_and c.from_residual.result c.from_residual.ensures.1 in
    let s = c.args.store.now in
    stopped _ (a_child (values_seen s.texts c.args.given.now)) _ s c.a_child.new.store c.in_err-child.field-0.0 c.from_residual.result c.in_err-child.ensures.refused refl (p.1 ∙ ap Err p.2)

pub give_child-requires-clause-id : goal.give_child-requires-clause-id
give_child-requires-clause-id c = rw c.in_ok-child.ensures.same c.requires.id

pub give_child-requires-clause-child : goal.give_child-requires-clause-child
give_child-requires-clause-child c = c.in_ok-child.ensures.child

pub returns-clause-answer : goal.returns-clause-answer
returns-clause-answer c =
    let s = c.args.store.now in
    let answer = rw c.in_ok-child.ensures.same at c.give_child.ensures.answer in
    past_free _ (a_child (values_seen s.texts c.args.given.now)) (child_found c.in_ok-child.child) _ s c.give_child.new.store c.give_child.result c.in_ok-child.ensures.found refl answer
