use Rattle.std.proofs.Common.{◌≡◌, ◌∙◌, ap, refl, arith, Err}
use Rattle.std.specs.Prelude.{codes}
use Rattle.std.proofs.lemmas.Result.{err_from_is_err_and}
use Rattle.lua_strings.specs.LuaMeaningValues.{rest}
use Rattle.lua_strings.specs.LuaMeaningHtml.{a_tag_name, closing_option}
use Rattle.lua_strings.specs.LuaStoreSeen.{StoreView}
use Rattle.lua_strings.specs.LuaBasicArguments.{text_bytes}
use Rattle.lua_strings.specs.LuaBasicSeen.{values_seen}
use Rattle.lua_strings.proofs.LuaBasicFound.{stopped}
use Rattle.lua_strings.proofs.Given.{past_free}
use Rattle.mw_htmls.proofs.making.tag.Goals as goal

pub returns-in_err-name-clause-answer : goal.returns-in_err-name-clause-answer
returns-in_err-name-clause-answer c =
    let p = err_from_is_err_and c.from_residual.result c.from_residual.ensures.1 in
    let s = c.args.store.now in
    stopped _ (a_tag_name 2 (codes "tag") (values_seen s.texts c.args.given.now)) _ s c.a_tag_name.new.store c.in_err-name.field-0.0 c.from_residual.result c.in_err-name.ensures.refused refl (p.1 ∙ ap Err p.2)

pub closing_option-requires : goal.closing_option-requires
closing_option-requires c = rw c.in_ok-name.ensures.same (c.rest.ensures.of c.args.store.now c.requires.given)

pub returns-in_err-closed-clause-answer : goal.returns-in_err-closed-clause-answer
returns-in_err-closed-clause-answer c =
    let p = err_from_is_err_and c.from_residual-in_err-closed.result c.from_residual-in_err-closed.ensures.1 in
    let s = c.args.store.now in
    let given = values_seen s.texts c.args.given.now in
    let same = rw c.in_ok-name.ensures.same at c.in_err-closed.ensures.refused in
    let none = rw (c.rest.ensures.values s.texts) at same in
    past_free _ (a_tag_name 2 (codes "tag") given) (text_bytes c.in_ok-name.name) _ s c.closing_option.new.store c.from_residual-in_err-closed.result c.in_ok-name.ensures.found refl
    (stopped _ (closing_option s.heap 3 (codes "tag") (rest given)) _ s c.closing_option.new.store c.in_err-closed.field-0.0 c.from_residual-in_err-closed.result none refl (p.1 ∙ ap Err p.2))

pub give_child-requires : goal.give_child-requires
give_child-requires c =
    let a = c.a_tag_name.ensures.later.markup in
    let b = c.closing_option.ensures.later.markup in
    omega (arith, c.requires.id, a, b)

pub returns-clause-answer : goal.returns-clause-answer
returns-clause-answer c =
    let s = c.args.store.now in
    let given = values_seen s.texts c.args.given.now in
    let same = rw c.in_ok-name.ensures.same at c.in_ok-closed.ensures.found in
    let found = rw (c.rest.ensures.values s.texts) at same in
    let heap : c.closing_option.new.store.heap ≡ s.heap = c.in_ok-closed.ensures.heap ∙ ap (λ (x : StoreView). x.heap) c.in_ok-name.ensures.same in
    let answer = rw (heap, c.as_slice.ensures) at c.give_child.ensures.answer in
    past_free _ (a_tag_name 2 (codes "tag") given) (text_bytes c.in_ok-name.name) _ s c.give_child.new.store c.give_child.result c.in_ok-name.ensures.found refl
    (past_free _ (closing_option s.heap 3 (codes "tag") (rest given)) c.in_ok-closed.closed _ s c.give_child.new.store c.give_child.result found refl answer)
