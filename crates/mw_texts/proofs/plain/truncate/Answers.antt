use Rattle.std.proofs.Common.{◌≡◌, ◌∙◌, ap, refl, Err, w64, to_z, of_z, rules}
use Rattle.std.specs.Prelude.{codes}
use Rattle.std.proofs.lemmas.Result.{err_from_is_err_and}
use Rattle.mw_ustrings.specs.LuaMeaningValues.{rest, third}
use Rattle.mw_ustrings.specs.LuaMeaningArguments.{a_number}
use Rattle.mw_ustrings.specs.LuaHeapValue.{is_true}
use Rattle.mw_ustrings.specs.LuaBasicArguments.{text_bytes}
use Rattle.mw_ustrings.specs.LuaBasicSeen.{values_seen}
use Rattle.mw_ustrings.specs.LuaMeaningTextArguments.{utf8_text, utf8_text_or}
use Rattle.mw_ustrings.proofs.ReadArguments.{behind_one, behind_two, handed_on, turned_down}
use Rattle.mw_texts.proofs.plain.truncate.Goals as goal

pub returns-in_err-text-clause-answer : goal.returns-in_err-text-clause-answer
returns-in_err-text-clause-answer c =
    let p = err_from_is_err_and c.from_residual.result c.from_residual.ensures.1 in
    let s = c.args.store.now in
    let vs = values_seen s.texts c.args.args.now in
    turned_down _ (utf8_text 1 (codes "truncate") vs) _ s s c.utf8_text.new.store c.args.left.now c.in_err-text.field-0.0 c.from_residual.result refl c.in_err-text.ensures.refused refl (p.1 ∙ ap Err p.2)

pub a_number-requires : goal.a_number-requires
a_number-requires c = rw c.in_ok-text.ensures.same (c.rest-others.ensures.of c.args.store.now c.requires)

pub returns-in_err-length-clause-answer : goal.returns-in_err-length-clause-answer
returns-in_err-length-clause-answer c =
    let p = err_from_is_err_and c.from_residual-in_err-length.result c.from_residual-in_err-length.ensures.1 in
    let s = c.args.store.now in
    let vs = values_seen s.texts c.args.args.now in
    let at_two = behind_one rest c.args.args.now c.rest-others.result.now s c.utf8_text.new.store c.in_ok-text.ensures.same c.rest-others.ensures.values in
    handed_on _ (utf8_text 1 (codes "truncate") vs) (text_bytes c.in_ok-text.text) _ s c.args.left.now c.args.left.now c.a_number.new.store c.from_residual-in_err-length.result c.in_ok-text.ensures.found refl
    (turned_down _ (a_number 2 (codes "truncate") (rest vs)) _ s c.utf8_text.new.store c.a_number.new.store c.args.left.now c.in_err-length.field-0.0 c.from_residual-in_err-length.result c.in_ok-text.ensures.same c.in_err-length.ensures.refused (ap (a_number 2 (codes "truncate")) at_two) (p.1 ∙ ap Err p.2))

pub utf8_text_or-requires : goal.utf8_text_or-requires
utf8_text_or-requires c = rw (c.in_ok-length.ensures.same ∙ c.in_ok-text.ensures.same) (c.rest.ensures.of c.args.store.now (c.rest-others.ensures.of c.args.store.now c.requires))

pub returns-in_err-ellipsis-clause-answer : goal.returns-in_err-ellipsis-clause-answer
returns-in_err-ellipsis-clause-answer c =
    let p = err_from_is_err_and c.from_residual-in_err-ellipsis.result c.from_residual-in_err-ellipsis.ensures.1 in
    let s = c.args.store.now in
    let vs = values_seen s.texts c.args.args.now in
    let at_two = behind_one rest c.args.args.now c.rest-others.result.now s c.utf8_text.new.store c.in_ok-text.ensures.same c.rest-others.ensures.values in
    let at_three = behind_two c.args.args.now c.rest-others.result.now c.rest.result.now s c.a_number.new.store (c.in_ok-length.ensures.same ∙ c.in_ok-text.ensures.same) c.rest-others.ensures.values c.rest.ensures.values in
    handed_on _ (utf8_text 1 (codes "truncate") vs) (text_bytes c.in_ok-text.text) _ s c.args.left.now c.args.left.now c.utf8_text_or.new.store c.from_residual-in_err-ellipsis.result c.in_ok-text.ensures.found refl
    (handed_on _ (a_number 2 (codes "truncate") (rest vs)) c.in_ok-length.length _ s c.args.left.now c.args.left.now c.utf8_text_or.new.store c.from_residual-in_err-ellipsis.result c.in_ok-length.ensures.found (ap (a_number 2 (codes "truncate")) at_two)
    (turned_down _ (utf8_text_or (codes "...") 3 (codes "truncate") (rest (rest vs))) _ s c.a_number.new.store c.utf8_text_or.new.store c.args.left.now c.in_err-ellipsis.field-0.0 c.from_residual-in_err-ellipsis.result (c.in_ok-length.ensures.same ∙ c.in_ok-text.ensures.same) c.in_err-ellipsis.ensures.refused (ap (utf8_text_or (codes "...") 3 (codes "truncate")) at_three) (p.1 ∙ ap Err p.2)))

pub returns-clause-answer : goal.returns-clause-answer
returns-clause-answer c =
    let s = c.args.store.now in
    let vs = values_seen s.texts c.args.args.now in
    let at_two = behind_one rest c.args.args.now c.rest-others.result.now s c.utf8_text.new.store c.in_ok-text.ensures.same c.rest-others.ensures.values in
    let at_three = behind_two c.args.args.now c.rest-others.result.now c.rest.result.now s c.a_number.new.store (c.in_ok-length.ensures.same ∙ c.in_ok-text.ensures.same) c.rest-others.ensures.values c.rest.ensures.values in
    let whole_length : to_z w64 (of_z w64 c.in_ok-length.length) ≡ c.in_ok-length.length = search rules in
    let adjust = c.is_true-adjust.ensures s.texts ∙ ap is_true (c.third.ensures.value s.texts ∙ ap third (c.rest-others.ensures.values s.texts)) in
    let answer = rw (c.in_ok-ellipsis.ensures.same ∙ c.in_ok-length.ensures.same ∙ c.in_ok-text.ensures.same, c.as_slice.ensures, c.as_slice-2.ensures, whole_length, adjust) at c.give_truncated.ensures.answer in
    handed_on _ (utf8_text 1 (codes "truncate") vs) (text_bytes c.in_ok-text.text) _ s c.args.left.now c.give_truncated.new.left c.give_truncated.new.store c.give_truncated.result c.in_ok-text.ensures.found refl
    (handed_on _ (a_number 2 (codes "truncate") (rest vs)) c.in_ok-length.length _ s c.args.left.now c.give_truncated.new.left c.give_truncated.new.store c.give_truncated.result c.in_ok-length.ensures.found (ap (a_number 2 (codes "truncate")) at_two)
    (handed_on _ (utf8_text_or (codes "...") 3 (codes "truncate") (rest (rest vs))) (text_bytes c.in_ok-ellipsis.ellipsis) _ s c.args.left.now c.give_truncated.new.left c.give_truncated.new.store c.give_truncated.result c.in_ok-ellipsis.ensures.found (ap (utf8_text_or (codes "...") 3 (codes "truncate")) at_three)
    answer))
