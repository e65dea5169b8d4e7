use Rattle.std.proofs.Common.{◌∙◌, ap, refl, Err}
use Rattle.std.specs.Prelude.{codes}
use Rattle.std.proofs.lemmas.Result.{err_from_is_err_and}
use Rattle.mw_ustrings.specs.LuaMeaningValues.{rest, second}
use Rattle.mw_ustrings.specs.LuaHeapValue.{is_true}
use Rattle.mw_ustrings.specs.LuaBasicArguments.{text_bytes}
use Rattle.mw_ustrings.specs.LuaBasicSeen.{values_seen}
use Rattle.mw_ustrings.specs.LuaMeaningTextArguments.{utf8_text}
use Rattle.mw_ustrings.proofs.ReadArguments.{behind_one, handed_on, turned_down}
use Rattle.mw_texts.proofs.splitting.split.Goals as goal

pub returns-in_err-text-clause-answer : goal.returns-in_err-text-clause-answer
returns-in_err-text-clause-answer c =
    let p = err_from_is_err_and c.from_residual.result c.from_residual.ensures.1 in
    let s = c.args.store.now in
    let vs = values_seen s.texts c.args.args.now in
    turned_down _ (utf8_text 1 (codes "split") vs) _ s s c.utf8_text.new.store c.args.left.now c.in_err-text.field-0.0 c.from_residual.result refl c.in_err-text.ensures.refused refl (p.1 ∙ ap Err p.2)

pub utf8_text-requires-2 : goal.utf8_text-requires-2
utf8_text-requires-2 c = rw c.in_ok-text.ensures.same (c.rest-others.ensures.of c.args.store.now c.requires)

pub returns-in_err-pattern-clause-answer : goal.returns-in_err-pattern-clause-answer
returns-in_err-pattern-clause-answer c =
    let p = err_from_is_err_and c.from_residual-in_err-pattern.result c.from_residual-in_err-pattern.ensures.1 in
    let s = c.args.store.now in
    let vs = values_seen s.texts c.args.args.now in
    let at_two = behind_one rest c.args.args.now c.rest-others.result.now s c.utf8_text.new.store c.in_ok-text.ensures.same c.rest-others.ensures.values in
    handed_on _ (utf8_text 1 (codes "split") vs) (text_bytes c.in_ok-text.text) _ s c.args.left.now c.args.left.now c.utf8_text-2.new.store c.from_residual-in_err-pattern.result c.in_ok-text.ensures.found refl
    (turned_down _ (utf8_text 2 (codes "split") (rest vs)) _ s c.utf8_text.new.store c.utf8_text-2.new.store c.args.left.now c.in_err-pattern.field-0.0 c.from_residual-in_err-pattern.result c.in_ok-text.ensures.same c.in_err-pattern.ensures.refused (ap (utf8_text 2 (codes "split")) at_two) (p.1 ∙ ap Err p.2))

pub returns-clause-answer : goal.returns-clause-answer
returns-clause-answer c =
    let s = c.args.store.now in
    let vs = values_seen s.texts c.args.args.now in
    let at_two = behind_one rest c.args.args.now c.rest-others.result.now s c.utf8_text.new.store c.in_ok-text.ensures.same c.rest-others.ensures.values in
    let plain = c.is_true-plain.ensures s.texts ∙ ap is_true (c.second.ensures.value s.texts ∙ ap second (c.rest-others.ensures.values s.texts)) in
    let answer = rw (c.in_ok-pattern.ensures.same ∙ c.in_ok-text.ensures.same, c.as_slice.ensures, c.as_slice-2.ensures, plain) at c.split_by.ensures.answer in
    handed_on _ (utf8_text 1 (codes "split") vs) (text_bytes c.in_ok-text.text) _ s c.args.left.now c.split_by.new.left c.split_by.new.store c.split_by.result c.in_ok-text.ensures.found refl
    (handed_on _ (utf8_text 2 (codes "split") (rest vs)) (text_bytes c.in_ok-pattern.pattern) _ s c.args.left.now c.split_by.new.left c.split_by.new.store c.split_by.result c.in_ok-pattern.ensures.found (ap (utf8_text 2 (codes "split")) at_two)
    answer)
