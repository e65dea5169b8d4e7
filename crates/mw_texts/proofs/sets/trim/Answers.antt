use Rattle.std.proofs.Common.{◌∙◌, ap, refl, Err}
use Rattle.std.specs.Prelude.{codes}
use Rattle.std.proofs.lemmas.Result.{err_from_is_err_and}
use Rattle.mw_ustrings.specs.LuaMeaningValues.{rest}
use Rattle.mw_ustrings.specs.LuaBasicArguments.{text_bytes}
use Rattle.mw_ustrings.specs.LuaBasicSeen.{values_seen}
use Rattle.mw_ustrings.specs.LuaMeaningTextArguments.{utf8_text, utf8_text_if_any}
use Rattle.std.specs.Option.{option_map}
use Rattle.mw_ustrings.proofs.ReadArguments.{behind_one, handed_on, turned_down}
use Rattle.mw_texts.proofs.sets.trim.Goals as goal

pub returns-in_err-text-clause-answer : goal.returns-in_err-text-clause-answer
returns-in_err-text-clause-answer c =
    let p = err_from_is_err_and c.from_residual.result c.from_residual.ensures.1 in
    let s = c.args.store.now in
    let vs = values_seen s.texts c.args.args.now in
    turned_down _ (utf8_text 1 (codes "trim") vs) _ s s c.utf8_text.new.store c.args.left.now c.in_err-text.field-0.0 c.from_residual.result refl c.in_err-text.ensures.refused refl (p.1 ∙ ap Err p.2)

pub utf8_text_if_any-requires : goal.utf8_text_if_any-requires
utf8_text_if_any-requires c = rw c.in_ok-text.ensures.same (c.rest-others.ensures.of c.args.store.now c.requires)

pub returns-in_err-set-clause-answer : goal.returns-in_err-set-clause-answer
returns-in_err-set-clause-answer c =
    let p = err_from_is_err_and c.from_residual-in_err-set.result c.from_residual-in_err-set.ensures.1 in
    let s = c.args.store.now in
    let vs = values_seen s.texts c.args.args.now in
    let at_two = behind_one rest c.args.args.now c.rest-others.result.now s c.utf8_text.new.store c.in_ok-text.ensures.same c.rest-others.ensures.values in
    handed_on _ (utf8_text 1 (codes "trim") vs) (text_bytes c.in_ok-text.text) _ s c.args.left.now c.args.left.now c.utf8_text_if_any.new.store c.from_residual-in_err-set.result c.in_ok-text.ensures.found refl
    (turned_down _ (utf8_text_if_any 2 (codes "trim") (rest vs)) _ s c.utf8_text.new.store c.utf8_text_if_any.new.store c.args.left.now c.in_err-set.field-0.0 c.from_residual-in_err-set.result c.in_ok-text.ensures.same c.in_err-set.ensures.refused (ap (utf8_text_if_any 2 (codes "trim")) at_two) (p.1 ∙ ap Err p.2))

pub returns-clause-answer : goal.returns-clause-answer
returns-clause-answer c =
    let s = c.args.store.now in
    let vs = values_seen s.texts c.args.args.now in
    let at_two = behind_one rest c.args.args.now c.rest-others.result.now s c.utf8_text.new.store c.in_ok-text.ensures.same c.rest-others.ensures.values in
    let answer = rw (c.in_ok-set.ensures.same ∙ c.in_ok-text.ensures.same, c.as_slice.ensures) at c.trim_with.ensures.answer in
    handed_on _ (utf8_text 1 (codes "trim") vs) (text_bytes c.in_ok-text.text) _ s c.args.left.now c.trim_with.new.left c.trim_with.new.store c.trim_with.result c.in_ok-text.ensures.found refl
    (handed_on _ (utf8_text_if_any 2 (codes "trim") (rest vs)) (option_map text_bytes c.in_ok-set.set) _ s c.args.left.now c.trim_with.new.left c.trim_with.new.store c.trim_with.result c.in_ok-set.ensures.found (ap (utf8_text_if_any 2 (codes "trim")) at_two)
    answer)
