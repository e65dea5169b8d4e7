use Rattle.std.proofs.Common.{◌∙◌, ap, refl, Ok, Err, [], ◌∷◌}
use Rattle.std.specs.Prelude.{codes}
use Rattle.std.proofs.lemmas.Result.{err_from_is_err_and}
use Rattle.mw_frame_texts.specs.LuaBasicArguments.{text_bytes}
use Rattle.mw_frame_texts.specs.LuaBasicSeen.{values_seen}
use Rattle.mw_ustrings.proofs.ReadArguments.{handed_on_free, turned_down_free}
use Rattle.std.specs.Str.{is_utf8}
use Rattle.mw_frame_texts.specs.LuaHeapValue.{Truth}
use Rattle.mw_frame_texts.specs.LuaMeaningArguments.{a_text, gives}
use Rattle.mw_frame_texts.specs.LuaBasicSeen.{Free}
use Rattle.mw_ustrings.proofs.wholes.isutf8.Goals as goal

pub returns-in_err-text-clause-answer : goal.returns-in_err-text-clause-answer
returns-in_err-text-clause-answer c =
    let p = err_from_is_err_and c.from_residual.result c.from_residual.ensures.1 in
    let s = c.args.store.now in
    let vs = values_seen s.texts c.args.args.now in
    turned_down_free _ (a_text 1 (codes "isutf8") vs) _ s s c.a_text.new.store c.in_err-text.field-0.0 c.from_residual.result refl c.in_err-text.ensures.refused refl (p.1 ∙ ap Err p.2)

pub returns-clause-answer : goal.returns-clause-answer
returns-clause-answer c =
    let s = c.args.store.now in
    let vs = values_seen s.texts c.args.args.now in
    let t = c.a_text.new.store in
    let answer : Free (gives s.heap (Truth (is_utf8 (text_bytes c.in_ok-text.text)) ∷ [])) t (Ok c.in_ok-values.values) =
    rw (c.in_ok-values.ensures, c.is_utf8.ensures, c.as_slice.ensures, c.in_ok-text.ensures.same) refl in
    handed_on_free _ (a_text 1 (codes "isutf8") vs) (text_bytes c.in_ok-text.text) _ s t (Ok c.in_ok-values.values) c.in_ok-text.ensures.found refl
    answer
