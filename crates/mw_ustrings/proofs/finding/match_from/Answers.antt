use Rattle.std.proofs.Common.{◌≡◌, ◌∙◌, ap, refl, Err, pos, w64, to_z, of_z, rules}
use Rattle.std.specs.Prelude.{codes}
use Rattle.std.proofs.lemmas.Result.{err_from_is_err_and}
use Rattle.mw_frame_texts.specs.LuaMeaningValues.{rest}
use Rattle.mw_frame_texts.specs.LuaMeaningArguments.{number_or}
use Rattle.mw_frame_texts.specs.LuaBasicArguments.{text_bytes}
use Rattle.mw_frame_texts.specs.LuaBasicSeen.{values_seen}
use Rattle.mw_frame_texts.specs.LuaMeaningTextArguments.{utf8_text}
use Rattle.mw_ustrings.proofs.ReadArguments.{behind_one, behind_two, handed_on, turned_down}
use Rattle.mw_ustrings.proofs.finding.match_from.Goals as goal

pub returns-in_err-text-clause-answer : goal.returns-in_err-text-clause-answer
returns-in_err-text-clause-answer c =
    let p = err_from_is_err_and c.from_residual.result c.from_residual.ensures.1 in
    let s = c.args.store.now in
    let vs = values_seen s.texts c.args.args.now in
    turned_down _ (utf8_text 1 (codes "match") vs) _ s s c.utf8_text.new.store c.args.left.now c.in_err-text.field-0.0 c.from_residual.result refl c.in_err-text.ensures.refused refl (p.1 ∙ ap Err p.2)

pub utf8_text-requires-2 : goal.utf8_text-requires-2
utf8_text-requires-2 c = rw c.in_ok-text.ensures.same (c.rest-others.ensures.of c.args.store.now c.requires)

pub returns-in_err-pattern-clause-answer : goal.returns-in_err-pattern-clause-answer
returns-in_err-pattern-clause-answer c =
    let p = err_from_is_err_and c.from_residual-in_err-pattern.result c.from_residual-in_err-pattern.ensures.1 in
    let s = c.args.store.now in
    let vs = values_seen s.texts c.args.args.now in
    let at_two = behind_one rest c.args.args.now c.rest-others.result.now s c.utf8_text.new.store c.in_ok-text.ensures.same c.rest-others.ensures.values in
    handed_on _ (utf8_text 1 (codes "match") vs) (text_bytes c.in_ok-text.text) _ s c.args.left.now c.args.left.now c.utf8_text-2.new.store c.from_residual-in_err-pattern.result c.in_ok-text.ensures.found refl
    (turned_down _ (utf8_text 2 (codes "match") (rest vs)) _ s c.utf8_text.new.store c.utf8_text-2.new.store c.args.left.now c.in_err-pattern.field-0.0 c.from_residual-in_err-pattern.result c.in_ok-text.ensures.same c.in_err-pattern.ensures.refused (ap (utf8_text 2 (codes "match")) at_two) (p.1 ∙ ap Err p.2))

pub number_or-requires : goal.number_or-requires
number_or-requires c = rw (c.in_ok-pattern.ensures.same ∙ c.in_ok-text.ensures.same) (c.rest.ensures.of c.args.store.now (c.rest-others.ensures.of c.args.store.now c.requires))

pub returns-in_err-init-clause-answer : goal.returns-in_err-init-clause-answer
returns-in_err-init-clause-answer c =
    let p = err_from_is_err_and c.from_residual-in_err-init.result c.from_residual-in_err-init.ensures.1 in
    let s = c.args.store.now in
    let vs = values_seen s.texts c.args.args.now in
    let at_two = behind_one rest c.args.args.now c.rest-others.result.now s c.utf8_text.new.store c.in_ok-text.ensures.same c.rest-others.ensures.values in
    let at_three = behind_two c.args.args.now c.rest-others.result.now c.rest.result.now s c.utf8_text-2.new.store (c.in_ok-pattern.ensures.same ∙ c.in_ok-text.ensures.same) c.rest-others.ensures.values c.rest.ensures.values in
    handed_on _ (utf8_text 1 (codes "match") vs) (text_bytes c.in_ok-text.text) _ s c.args.left.now c.args.left.now c.number_or.new.store c.from_residual-in_err-init.result c.in_ok-text.ensures.found refl
    (handed_on _ (utf8_text 2 (codes "match") (rest vs)) (text_bytes c.in_ok-pattern.pattern) _ s c.args.left.now c.args.left.now c.number_or.new.store c.from_residual-in_err-init.result c.in_ok-pattern.ensures.found (ap (utf8_text 2 (codes "match")) at_two)
    (turned_down _ (number_or (pos 1) 3 (codes "match") (rest (rest vs))) _ s c.utf8_text-2.new.store c.number_or.new.store c.args.left.now c.in_err-init.field-0.0 c.from_residual-in_err-init.result (c.in_ok-pattern.ensures.same ∙ c.in_ok-text.ensures.same) c.in_err-init.ensures.refused (ap (number_or (pos 1) 3 (codes "match")) at_three) (p.1 ∙ ap Err p.2)))

pub returns-clause-answer : goal.returns-clause-answer
returns-clause-answer c =
    let s = c.args.store.now in
    let vs = values_seen s.texts c.args.args.now in
    let at_two = behind_one rest c.args.args.now c.rest-others.result.now s c.utf8_text.new.store c.in_ok-text.ensures.same c.rest-others.ensures.values in
    let at_three = behind_two c.args.args.now c.rest-others.result.now c.rest.result.now s c.utf8_text-2.new.store (c.in_ok-pattern.ensures.same ∙ c.in_ok-text.ensures.same) c.rest-others.ensures.values c.rest.ensures.values in
    let whole_init : to_z w64 (of_z w64 c.in_ok-init.init) ≡ c.in_ok-init.init = search rules in
    let answer = rw (c.in_ok-init.ensures.same ∙ c.in_ok-pattern.ensures.same ∙ c.in_ok-text.ensures.same, c.as_slice.ensures, c.as_slice-2.ensures, whole_init) at c.match_by.ensures.answer in
    handed_on _ (utf8_text 1 (codes "match") vs) (text_bytes c.in_ok-text.text) _ s c.args.left.now c.match_by.new.left c.match_by.new.store c.match_by.result c.in_ok-text.ensures.found refl
    (handed_on _ (utf8_text 2 (codes "match") (rest vs)) (text_bytes c.in_ok-pattern.pattern) _ s c.args.left.now c.match_by.new.left c.match_by.new.store c.match_by.result c.in_ok-pattern.ensures.found (ap (utf8_text 2 (codes "match")) at_two)
    (handed_on _ (number_or (pos 1) 3 (codes "match") (rest (rest vs))) c.in_ok-init.init _ s c.args.left.now c.match_by.new.left c.match_by.new.store c.match_by.result c.in_ok-init.ensures.found (ap (number_or (pos 1) 3 (codes "match")) at_three)
    answer))
