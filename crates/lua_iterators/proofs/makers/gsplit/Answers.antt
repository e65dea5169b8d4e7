use Rattle.std.proofs.Common.{◌∙◌, ap, refl, Err}
use Rattle.std.specs.Prelude.{codes}
use Rattle.std.proofs.lemmas.Result.{err_from_is_err_and}
use Rattle.lua_strings.specs.LuaMeaningValues.{rest}
use Rattle.lua_strings.specs.LuaMeaningTextArguments.{utf8_text}
use Rattle.lua_strings.specs.LuaBasicArguments.{text_bytes}
use Rattle.lua_strings.specs.LuaBasicSeen.{values_seen}
use Rattle.mw_ustrings.proofs.ReadArguments.{behind_one, handed_on, turned_down}
use Rattle.lua_iterators.proofs.Made.{first_text, utf8_found}
use Rattle.lua_iterators.proofs.makers.gsplit.Goals as goal

pub returns-in_err-text-clause-answer : goal.returns-in_err-text-clause-answer
returns-in_err-text-clause-answer c =
    let p = err_from_is_err_and c.from_residual.result c.from_residual.ensures.1 in
    let s = c.args.store.now in
    let vs = values_seen s.texts c.args.args.now in
    turned_down _ (utf8_text 1 (codes "gsplit") vs) _ s s c.utf8_text.new.store c.args.left.now c.in_err-text.field-0.0 c.from_residual.result refl c.in_err-text.ensures.refused refl (p.1 ∙ ap Err p.2)

pub utf8_text-requires-2 : goal.utf8_text-requires-2
utf8_text-requires-2 c = rw c.in_ok-text.ensures.same (c.rest-others.ensures.of c.args.store.now c.requires)

pub returns-in_err-pattern-clause-answer : goal.returns-in_err-pattern-clause-answer
returns-in_err-pattern-clause-answer c =
    let p = err_from_is_err_and c.from_residual-in_err-pattern.result c.from_residual-in_err-pattern.ensures.1 in
    let s = c.args.store.now in
    let vs = values_seen s.texts c.args.args.now in
    let at_two = behind_one rest c.args.args.now c.rest-others.result.now s c.utf8_text.new.store c.in_ok-text.ensures.same c.rest-others.ensures.values in
    handed_on _ (utf8_text 1 (codes "gsplit") vs) (text_bytes c.in_ok-text.text) _ s c.args.left.now c.args.left.now c.utf8_text-2.new.store c.from_residual-in_err-pattern.result c.in_ok-text.ensures.found refl
    (turned_down _ (utf8_text 2 (codes "gsplit") (rest vs)) _ s c.utf8_text.new.store c.utf8_text-2.new.store c.args.left.now c.in_err-pattern.field-0.0 c.from_residual-in_err-pattern.result c.in_ok-text.ensures.same c.in_err-pattern.ensures.refused (ap (utf8_text 2 (codes "gsplit")) at_two) (p.1 ∙ ap Err p.2))

pub make_by_pattern-requires-clause-subject : goal.make_by_pattern-requires-clause-subject
make_by_pattern-requires-clause-subject c = rw (c.in_ok-pattern.ensures.same ∙ c.in_ok-text.ensures.same) (c.first.ensures.of c.args.store.now c.requires)

pub make_by_pattern-requires-clause-s : goal.make_by_pattern-requires-clause-s
make_by_pattern-requires-clause-s c =
    let s = c.args.store.now in
    rw (c.in_ok-pattern.ensures.same ∙ c.in_ok-text.ensures.same, c.as_slice.ensures) (first_text s.texts c.args.args.now c.first.result _ (c.first.ensures.value s.texts) (utf8_found 1 (codes "gsplit") (values_seen s.texts c.args.args.now) _ c.in_ok-text.ensures.found))

pub make_by_pattern-requires-clause-pattern : goal.make_by_pattern-requires-clause-pattern
make_by_pattern-requires-clause-pattern c = rw (c.in_ok-pattern.ensures.same ∙ c.in_ok-text.ensures.same) (c.first-2.ensures.of c.args.store.now (c.rest-others.ensures.of c.args.store.now c.requires))

pub make_by_pattern-requires-clause-p : goal.make_by_pattern-requires-clause-p
make_by_pattern-requires-clause-p c =
    let s = c.args.store.now in
    let found = rw c.in_ok-text.ensures.same at c.in_ok-pattern.ensures.found in
    rw (c.in_ok-pattern.ensures.same ∙ c.in_ok-text.ensures.same, c.as_slice-2.ensures) (first_text s.texts c.rest-others.result.now c.first-2.result _ (c.first-2.ensures.value s.texts) (utf8_found 2 (codes "gsplit") (values_seen s.texts c.rest-others.result.now) _ found))

pub returns-clause-answer : goal.returns-clause-answer
returns-clause-answer c =
    let s = c.args.store.now in
    let vs = values_seen s.texts c.args.args.now in
    let at_two = behind_one rest c.args.args.now c.rest-others.result.now s c.utf8_text.new.store c.in_ok-text.ensures.same c.rest-others.ensures.values in
    let answer = rw (c.in_ok-pattern.ensures.same ∙ c.in_ok-text.ensures.same, c.as_slice.ensures, c.as_slice-2.ensures, c.is_true-plain.ensures s.texts, c.second.ensures.value s.texts, c.rest-others.ensures.values s.texts) at c.make_by_pattern.ensures.answer in
    handed_on _ (utf8_text 1 (codes "gsplit") vs) (text_bytes c.in_ok-text.text) _ s c.args.left.now c.make_by_pattern.new.left c.make_by_pattern.new.store c.make_by_pattern.result c.in_ok-text.ensures.found refl
    (handed_on _ (utf8_text 2 (codes "gsplit") (rest vs)) (text_bytes c.in_ok-pattern.pattern) _ s c.args.left.now c.make_by_pattern.new.left c.make_by_pattern.new.store c.make_by_pattern.result c.in_ok-pattern.ensures.found (ap (utf8_text 2 (codes "gsplit")) at_two)
    answer)
