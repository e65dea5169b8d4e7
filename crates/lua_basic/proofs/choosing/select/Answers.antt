use Rattle.std.proofs.Common.{◌≡◌, ◌∙◌, ap, refl, Err, sym, subst, length, true, false, rules, w64, to_z, of_z}
use Rattle.std.proofs.lemmas.List.{length-map}
use Rattle.std.proofs.lemmas.Result.{err_from_is_err_and}
use Rattle.lua_meaning.specs.Basic.{is_count}
use Rattle.lua_meaning.specs.Values as meaning
use Rattle.lua_store.specs.Seen.{seen}
use Rattle.lua_basic.specs.Seen.{values_seen, Free}
use Rattle.lua_basic.proofs.Lists.{tested}
use Rattle.lua_basic.proofs.Found.{stopped}
use Rattle.lua_basic.proofs.Basic.{select-count, select-place}
use Rattle.lua_basic.proofs.choosing.select.Goals as goal

pub is_count-requires : goal.is_count-requires
is_count-requires c = c.first.ensures.of c.args.store.now c.requires

pub returns-then-is_count-clause-answer : goal.returns-then-is_count-clause-answer
returns-then-is_count-clause-answer c =
    let texts = c.args.store.now.texts in
    let count : length c.rest-others.result.now ≡ length (meaning.rest (values_seen texts c.args.args.now)) = sym (length-map c.rest-others.result.now (seen texts)) ∙ ap length (c.rest-others.ensures.values texts) in
    rw (c.in_ok-values.ensures, c.counted.ensures.value texts, count)
    (select-count c.args.store.now.heap (values_seen texts c.args.args.now) (tested is_count _ _ true (c.first.ensures.value texts) c.if-is_count.ensures))

pub returns-then-is_count-clause-of : goal.returns-then-is_count-clause-of
returns-then-is_count-clause-of c = rw c.in_ok-values.ensures (c.counted.ensures.of c.args.store.now, tt)

pub returns-in_err-place-clause-answer : goal.returns-in_err-place-clause-answer
returns-in_err-place-clause-answer c =
    let p = err_from_is_err_and c.from_residual-in_err-place.result c.from_residual-in_err-place.ensures.1 in
    rw (tested is_count _ _ false (c.first.ensures.value c.args.store.now.texts) c.if-is_count.ensures)
    (stopped _ _ _ c.args.store.now c.a_number.new.store c.in_err-place.field-0.0 c.from_residual-in_err-place.result c.in_err-place.ensures.refused refl (p.1 ∙ ap Err p.2))

pub from_place-requires : goal.from_place-requires
from_place-requires c = rw c.in_ok-place.ensures.same (c.rest-others.ensures.of c.args.store.now c.requires)

pub returns-clause-answer : goal.returns-clause-answer
returns-clause-answer c =
    let texts = c.args.store.now.texts in
    let whole : to_z w64 (of_z w64 c.in_ok-place.place) ≡ c.in_ok-place.place = search rules in
    let place = select-place c.args.store.now.heap (values_seen texts c.args.args.now) c.in_ok-place.place (tested is_count _ _ false (c.first.ensures.value texts) c.if-is_count.ensures) c.in_ok-place.ensures.found in
    let answer = rw (whole, c.in_ok-place.ensures.same, c.rest-others.ensures.values texts) at c.from_place.ensures.answer in
    subst (λ q. Free q c.from_place.new.store c.from_place.result) (sym place) answer
