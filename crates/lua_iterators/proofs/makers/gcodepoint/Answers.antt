use Rattle.std.proofs.Common.{◌≡◌, ◌∙◌, ap, refl, Err, pos, negsuc, w64, to_z, of_z, rules}
use Rattle.std.specs.Prelude.{codes}
use Rattle.std.proofs.lemmas.Result.{err_from_is_err_and}
use Rattle.lua_strings.specs.LuaMeaningValues.{rest}
use Rattle.lua_strings.specs.LuaMeaningArguments.{number_or}
use Rattle.lua_strings.specs.LuaMeaningTextArguments.{utf8_text}
use Rattle.lua_strings.specs.LuaBasicArguments.{text_bytes}
use Rattle.lua_strings.specs.LuaBasicSeen.{values_seen}
use Rattle.mw_ustrings.proofs.ReadArguments.{behind_one, behind_two, handed_on, turned_down}
use Rattle.lua_iterators.proofs.makers.gcodepoint.Goals as goal

pub returns-in_err-text-clause-answer : goal.returns-in_err-text-clause-answer
returns-in_err-text-clause-answer c =
    let p = err_from_is_err_and c.from_residual.result c.from_residual.ensures.1 in
    let s = c.args.store.now in
    let vs = values_seen s.texts c.args.args.now in
    turned_down _ (utf8_text 1 (codes "gcodepoint") vs) _ s s c.utf8_text.new.store c.args.left.now c.in_err-text.field-0.0 c.from_residual.result refl c.in_err-text.ensures.refused refl (p.1 ∙ ap Err p.2)

pub number_or-requires : goal.number_or-requires
number_or-requires c = rw c.in_ok-text.ensures.same (c.rest-others.ensures.of c.args.store.now c.requires)

pub returns-in_err-from-clause-answer : goal.returns-in_err-from-clause-answer
returns-in_err-from-clause-answer c =
    let p = err_from_is_err_and c.from_residual-in_err-from.result c.from_residual-in_err-from.ensures.1 in
    let s = c.args.store.now in
    let vs = values_seen s.texts c.args.args.now in
    let at_two = behind_one rest c.args.args.now c.rest-others.result.now s c.utf8_text.new.store c.in_ok-text.ensures.same c.rest-others.ensures.values in
    handed_on _ (utf8_text 1 (codes "gcodepoint") vs) (text_bytes c.in_ok-text.text) _ s c.args.left.now c.args.left.now c.number_or.new.store c.from_residual-in_err-from.result c.in_ok-text.ensures.found refl
    (turned_down _ (number_or (pos 1) 2 (codes "gcodepoint") (rest vs)) _ s c.utf8_text.new.store c.number_or.new.store c.args.left.now c.in_err-from.field-0.0 c.from_residual-in_err-from.result c.in_ok-text.ensures.same c.in_err-from.ensures.refused (ap (number_or (pos 1) 2 (codes "gcodepoint")) at_two) (p.1 ∙ ap Err p.2))

pub number_or-requires-2 : goal.number_or-requires-2
number_or-requires-2 c = rw (c.in_ok-from.ensures.same ∙ c.in_ok-text.ensures.same) (c.rest.ensures.of c.args.store.now (c.rest-others.ensures.of c.args.store.now c.requires))

pub returns-in_err-to-clause-answer : goal.returns-in_err-to-clause-answer
returns-in_err-to-clause-answer c =
    let p = err_from_is_err_and c.from_residual-in_err-to.result c.from_residual-in_err-to.ensures.1 in
    let s = c.args.store.now in
    let vs = values_seen s.texts c.args.args.now in
    let at_two = behind_one rest c.args.args.now c.rest-others.result.now s c.utf8_text.new.store c.in_ok-text.ensures.same c.rest-others.ensures.values in
    let at_three = behind_two c.args.args.now c.rest-others.result.now c.rest.result.now s c.number_or.new.store (c.in_ok-from.ensures.same ∙ c.in_ok-text.ensures.same) c.rest-others.ensures.values c.rest.ensures.values in
    handed_on _ (utf8_text 1 (codes "gcodepoint") vs) (text_bytes c.in_ok-text.text) _ s c.args.left.now c.args.left.now c.number_or-2.new.store c.from_residual-in_err-to.result c.in_ok-text.ensures.found refl
    (handed_on _ (number_or (pos 1) 2 (codes "gcodepoint") (rest vs)) c.in_ok-from.from _ s c.args.left.now c.args.left.now c.number_or-2.new.store c.from_residual-in_err-to.result c.in_ok-from.ensures.found (ap (number_or (pos 1) 2 (codes "gcodepoint")) at_two)
    (turned_down _ (number_or (negsuc 0) 3 (codes "gcodepoint") (rest (rest vs))) _ s c.number_or.new.store c.number_or-2.new.store c.args.left.now c.in_err-to.field-0.0 c.from_residual-in_err-to.result (c.in_ok-from.ensures.same ∙ c.in_ok-text.ensures.same) c.in_err-to.ensures.refused (ap (number_or (negsuc 0) 3 (codes "gcodepoint")) at_three) (p.1 ∙ ap Err p.2)))

pub returns-clause-answer : goal.returns-clause-answer
returns-clause-answer c =
    let s = c.args.store.now in
    let vs = values_seen s.texts c.args.args.now in
    let at_two = behind_one rest c.args.args.now c.rest-others.result.now s c.utf8_text.new.store c.in_ok-text.ensures.same c.rest-others.ensures.values in
    let at_three = behind_two c.args.args.now c.rest-others.result.now c.rest.result.now s c.number_or.new.store (c.in_ok-from.ensures.same ∙ c.in_ok-text.ensures.same) c.rest-others.ensures.values c.rest.ensures.values in
    let whole_from : to_z w64 (of_z w64 c.in_ok-from.from) ≡ c.in_ok-from.from = search rules in
    let whole_to : to_z w64 (of_z w64 c.in_ok-to.to) ≡ c.in_ok-to.to = search rules in
    let answer = rw (c.in_ok-to.ensures.same ∙ c.in_ok-from.ensures.same ∙ c.in_ok-text.ensures.same, c.as_slice.ensures, whole_from, whole_to) at c.make_points.ensures.answer in
    handed_on _ (utf8_text 1 (codes "gcodepoint") vs) (text_bytes c.in_ok-text.text) _ s c.args.left.now c.make_points.new.left c.make_points.new.store c.make_points.result c.in_ok-text.ensures.found refl
    (handed_on _ (number_or (pos 1) 2 (codes "gcodepoint") (rest vs)) c.in_ok-from.from _ s c.args.left.now c.make_points.new.left c.make_points.new.store c.make_points.result c.in_ok-from.ensures.found (ap (number_or (pos 1) 2 (codes "gcodepoint")) at_two)
    (handed_on _ (number_or (negsuc 0) 3 (codes "gcodepoint") (rest (rest vs))) c.in_ok-to.to _ s c.args.left.now c.make_points.new.left c.make_points.new.store c.make_points.result c.in_ok-to.ensures.found (ap (number_or (negsuc 0) 3 (codes "gcodepoint")) at_three)
    answer))
