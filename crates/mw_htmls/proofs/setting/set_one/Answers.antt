use Rattle.std.proofs.Common.{◌∙◌, ap, refl, Err}
use Rattle.std.proofs.lemmas.Result.{err_from_is_err_and}
use Rattle.mw_html.specs.LuaHeapHeap.{markup_at}
use Rattle.lua_strings.specs.LuaMeaningHtml as html
use Rattle.lua_strings.specs.LuaBasicSeen.{values_seen}
use Rattle.lua_strings.proofs.LuaBasicFound.{stopped}
use Rattle.lua_strings.proofs.Given.{past_free}
use Rattle.mw_htmls.specs.Setters.{setter_of, set_by}
use Rattle.mw_htmls.proofs.setting.set_one.Goals as goal

pub returns-in_err-setting-clause-answer : goal.returns-in_err-setting-clause-answer
returns-in_err-setting-clause-answer c =
    let p = err_from_is_err_and c.from_residual.result c.from_residual.ensures.1 in
    let s = c.args.store.now in
    let node = markup_at s.heap c.args.id.at in
    stopped _ (html.set_one (setter_of c.args.setter) (values_seen s.texts c.args.given.now) node) _ s c.a_setting.new.store c.in_err-setting.field-0.0 c.from_residual.result (c.in_err-setting.ensures.refused node) refl (p.1 ∙ ap Err p.2)

pub give_set-requires : goal.give_set-requires
give_set-requires c = rw c.in_ok-setting.ensures.same c.requires.id

pub returns-clause-answer : goal.returns-clause-answer
returns-clause-answer c =
    let s = c.args.store.now in
    let node = markup_at s.heap c.args.id.at in
    let answer = rw c.in_ok-setting.ensures.same at c.give_set.ensures.answer in
    past_free _ (html.set_one (setter_of c.args.setter) (values_seen s.texts c.args.given.now) node) (set_by c.args.setter c.in_ok-setting.setting node) _ s c.give_set.new.store c.give_set.result (c.in_ok-setting.ensures.found node) refl answer
