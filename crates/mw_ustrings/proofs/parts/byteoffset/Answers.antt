use Rattle.std.proofs.Common.{◌≡◌, ◌∙◌, ap, refl, Ok, Err, pos, w64, to_z, of_z, rules, [], ◌∷◌}
use Rattle.std.specs.Prelude.{codes}
use Rattle.std.proofs.lemmas.Result.{err_from_is_err_and}
use Rattle.mw_frame_texts.specs.LuaMeaningValues.{rest}
use Rattle.mw_frame_texts.specs.LuaMeaningArguments.{number_or}
use Rattle.mw_frame_texts.specs.LuaBasicArguments.{text_bytes}
use Rattle.mw_frame_texts.specs.LuaBasicSeen.{values_seen}
use Rattle.mw_frame_texts.specs.LuaMeaningTextArguments.{utf8_text}
use Rattle.mw_ustrings.proofs.ReadArguments.{behind_one, behind_two, handed_on_free, turned_down_free}
use Rattle.mw_frame_texts.specs.LuaMeaningArguments.{gives}
use Rattle.mw_text.specs.MwUstringTexts.{byteoffset_of}
use Rattle.mw_frame_texts.specs.LuaBasicSeen.{Free}
use Rattle.mw_frame_texts.specs.LuaMeaningUstring.{place_or_nil}
use Rattle.mw_ustrings.proofs.parts.byteoffset.Goals as goal

pub returns-in_err-text-clause-answer : goal.returns-in_err-text-clause-answer
returns-in_err-text-clause-answer c =
    let p = err_from_is_err_and c.from_residual.result c.from_residual.ensures.1 in
    let s = c.args.store.now in
    let vs = values_seen s.texts c.args.args.now in
    turned_down_free _ (utf8_text 1 (codes "byteoffset") vs) _ s s c.utf8_text.new.store c.in_err-text.field-0.0 c.from_residual.result refl c.in_err-text.ensures.refused refl (p.1 ∙ ap Err p.2)

pub number_or-requires : goal.number_or-requires
number_or-requires c = rw c.in_ok-text.ensures.same (c.rest-others.ensures.of c.args.store.now c.requires)

pub returns-in_err-from-clause-answer : goal.returns-in_err-from-clause-answer
returns-in_err-from-clause-answer c =
    let p = err_from_is_err_and c.from_residual-in_err-from.result c.from_residual-in_err-from.ensures.1 in
    let s = c.args.store.now in
    let vs = values_seen s.texts c.args.args.now in
    let at_two = behind_one rest c.args.args.now c.rest-others.result.now s c.utf8_text.new.store c.in_ok-text.ensures.same c.rest-others.ensures.values in
    handed_on_free _ (utf8_text 1 (codes "byteoffset") vs) (text_bytes c.in_ok-text.text) _ s c.number_or.new.store c.from_residual-in_err-from.result c.in_ok-text.ensures.found refl
    (turned_down_free _ (number_or (pos 1) 2 (codes "byteoffset") (rest vs)) _ s c.utf8_text.new.store c.number_or.new.store c.in_err-from.field-0.0 c.from_residual-in_err-from.result c.in_ok-text.ensures.same c.in_err-from.ensures.refused (ap (number_or (pos 1) 2 (codes "byteoffset")) at_two) (p.1 ∙ ap Err p.2))

pub number_or-requires-2 : goal.number_or-requires-2
number_or-requires-2 c = rw (c.in_ok-from.ensures.same ∙ c.in_ok-text.ensures.same) (c.rest.ensures.of c.args.store.now (c.rest-others.ensures.of c.args.store.now c.requires))

pub returns-in_err-byte-clause-answer : goal.returns-in_err-byte-clause-answer
returns-in_err-byte-clause-answer c =
    let p = err_from_is_err_and c.from_residual-in_err-byte.result c.from_residual-in_err-byte.ensures.1 in
    let s = c.args.store.now in
    let vs = values_seen s.texts c.args.args.now in
    let at_two = behind_one rest c.args.args.now c.rest-others.result.now s c.utf8_text.new.store c.in_ok-text.ensures.same c.rest-others.ensures.values in
    let at_three = behind_two c.args.args.now c.rest-others.result.now c.rest.result.now s c.number_or.new.store (c.in_ok-from.ensures.same ∙ c.in_ok-text.ensures.same) c.rest-others.ensures.values c.rest.ensures.values in
    handed_on_free _ (utf8_text 1 (codes "byteoffset") vs) (text_bytes c.in_ok-text.text) _ s c.number_or-2.new.store c.from_residual-in_err-byte.result c.in_ok-text.ensures.found refl
    (handed_on_free _ (number_or (pos 1) 2 (codes "byteoffset") (rest vs)) c.in_ok-from.from _ s c.number_or-2.new.store c.from_residual-in_err-byte.result c.in_ok-from.ensures.found (ap (number_or (pos 1) 2 (codes "byteoffset")) at_two)
    (turned_down_free _ (number_or (pos 1) 3 (codes "byteoffset") (rest (rest vs))) _ s c.number_or.new.store c.number_or-2.new.store c.in_err-byte.field-0.0 c.from_residual-in_err-byte.result (c.in_ok-from.ensures.same ∙ c.in_ok-text.ensures.same) c.in_err-byte.ensures.refused (ap (number_or (pos 1) 3 (codes "byteoffset")) at_three) (p.1 ∙ ap Err p.2)))

pub returns-clause-answer : goal.returns-clause-answer
returns-clause-answer c =
    let s = c.args.store.now in
    let vs = values_seen s.texts c.args.args.now in
    let at_two = behind_one rest c.args.args.now c.rest-others.result.now s c.utf8_text.new.store c.in_ok-text.ensures.same c.rest-others.ensures.values in
    let at_three = behind_two c.args.args.now c.rest-others.result.now c.rest.result.now s c.number_or.new.store (c.in_ok-from.ensures.same ∙ c.in_ok-text.ensures.same) c.rest-others.ensures.values c.rest.ensures.values in
    let whole_from : to_z w64 (of_z w64 c.in_ok-from.from) ≡ c.in_ok-from.from = search rules in
    let whole_byte : to_z w64 (of_z w64 c.in_ok-byte.byte) ≡ c.in_ok-byte.byte = search rules in
    let t = c.number_or-2.new.store in
    let answer : Free (gives s.heap (place_or_nil (byteoffset_of (text_bytes c.in_ok-text.text) c.in_ok-from.from c.in_ok-byte.byte) ∷ [])) t (Ok c.in_ok-values.values) =
    rw (c.in_ok-values.ensures, c.in_ok-place.ensures.value t.texts, c.byteoffset.ensures, c.as_slice.ensures, whole_from, whole_byte, c.in_ok-byte.ensures.same ∙ c.in_ok-from.ensures.same ∙ c.in_ok-text.ensures.same) refl in
    handed_on_free _ (utf8_text 1 (codes "byteoffset") vs) (text_bytes c.in_ok-text.text) _ s t (Ok c.in_ok-values.values) c.in_ok-text.ensures.found refl
    (handed_on_free _ (number_or (pos 1) 2 (codes "byteoffset") (rest vs)) c.in_ok-from.from _ s t (Ok c.in_ok-values.values) c.in_ok-from.ensures.found (ap (number_or (pos 1) 2 (codes "byteoffset")) at_two)
    (handed_on_free _ (number_or (pos 1) 3 (codes "byteoffset") (rest (rest vs))) c.in_ok-byte.byte _ s t (Ok c.in_ok-values.values) c.in_ok-byte.ensures.found (ap (number_or (pos 1) 3 (codes "byteoffset")) at_three)
    answer))

pub returns-clause-of : goal.returns-clause-of
returns-clause-of c = rw c.in_ok-values.ensures (c.in_ok-place.ensures.of c.number_or-2.new.store, tt)
