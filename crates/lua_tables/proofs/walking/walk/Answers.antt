use Rattle.std.proofs.Common.{◌≡◌, ◌∙◌, ap, sym, subst, Err, rules, w64, to_z, of_z}
use Rattle.std.proofs.lemmas.Int.{to_z-of_z}
use Rattle.std.proofs.lemmas.Result.{err_from_is_err_and}
use Rattle.lua_basic.specs.LuaHeapHeap.{table_at}
use Rattle.lua_basic.specs.LuaHeapTable.{get}
use Rattle.lua_basic.specs.LuaHeapValue.{Number}
use Rattle.lua_basic.specs.LuaMeaningBasic.{count_between}
use Rattle.lua_tables.specs.Walked.{test_of}
use Rattle.lua_tables.proofs.Reading.{Walking, walking-start, walking-on, walking-refused, walking-all, walking-short}
use Rattle.lua_tables.proofs.walking.walk.Goals as goal

pub places-preserved : goal.places-preserved
places-preserved c =
    let first = to_z-of_z w64 c.args.first c.ranges.first in
    let last = to_z-of_z w64 c.args.last c.ranges.last in
    let s = c.args.store.now in
    let es = (table_at s.heap c.args.table.at).entries in
    let n = count_between c.args.first c.args.last in
    let inv = rw (first, last) at c.places.invariant in
    let here = rw (first, last) at c.in-Some.ensures in
    let whole : to_z w64 (of_z w64 c.in-Some.place) ≡ c.in-Some.place = search rules in
    let value = (rw whole at c.get-value.ensures.value) ∙ ap (λ z. get es (Number z)) here.1 in
    let passed = sym (c.passes.ensures s.texts) ∙ c.if-not-passes.false in
    rw (first, last)
    (walking-on s es (test_of s.texts c.args.wanted) c.args.first n c.places.offset c.places.values c.args.left.now c.places.left inv
    c.get-value.result c.push.new.self c.take.new.left here.0 c.in_ok-push-in-Some.ensures.ok c.get-value.ensures.of value passed c.in_ok-take-in-Some.ensures)

pub returns-in-None : goal.returns-in-None
returns-in-None c =
    let first = to_z-of_z w64 c.args.first c.ranges.first in
    let last = to_z-of_z w64 c.args.last c.ranges.last in
    let s = c.args.store.now in
    let es = (table_at s.heap c.args.table.at).entries in
    let inv = rw (first, last) at c.places.invariant in
    let out_ = rw (first, last) at c.in-None.ensures in
    walking-all s es (test_of s.texts c.args.wanted) c.args.first (count_between c.args.first c.args.last) c.places.offset c.places.values c.args.left.now c.places.left inv out_

pub returns-then-not-passes : goal.returns-then-not-passes
returns-then-not-passes c =
    let first = to_z-of_z w64 c.args.first c.ranges.first in
    let last = to_z-of_z w64 c.args.last c.ranges.last in
    let s = c.args.store.now in
    let es = (table_at s.heap c.args.table.at).entries in
    let inv = rw (first, last) at c.places.invariant in
    let here = rw (first, last) at c.in-Some.ensures in
    let whole : to_z w64 (of_z w64 c.in-Some.place) ≡ c.in-Some.place = search rules in
    let value = (rw whole at c.get-value.ensures.value) ∙ ap (λ z. get es (Number z)) here.1 in
    let failed = sym (c.passes.ensures s.texts) ∙ c.if-not-passes.true in
    walking-refused s es (test_of s.texts c.args.wanted) c.args.first (count_between c.args.first c.args.last) c.places.offset c.places.values c.args.left.now c.places.left inv
    c.get-value.result c.take.new.left here.0 c.get-value.ensures.of value failed c.in_ok-take-in-Some.ensures

pub places-init : goal.places-init
places-init c =
    let first = to_z-of_z w64 c.args.first c.ranges.first in
    let last = to_z-of_z w64 c.args.last c.ranges.last in
    let s = c.args.store.now in
    let es = (table_at s.heap c.args.table.at).entries in
    let n = count_between c.args.first c.args.last in
    rw (first, last)
    (subst (λ vs. Walking s es (test_of s.texts c.args.wanted) c.args.first n 0 vs c.args.left.now c.args.left.now) (sym c.new-values.ensures) (walking-start s es (test_of s.texts c.args.wanted) c.args.first n c.args.left.now))

pub returns-in_err-take-in-Some : goal.returns-in_err-take-in-Some
returns-in_err-take-in-Some c =
    let p = err_from_is_err_and c.from_residual.result c.from_residual.ensures.1 in
    let first = to_z-of_z w64 c.args.first c.ranges.first in
    let last = to_z-of_z w64 c.args.last c.ranges.last in
    let s = c.args.store.now in
    let es = (table_at s.heap c.args.table.at).entries in
    let inv = rw (first, last) at c.places.invariant in
    let here = rw (first, last) at c.in-Some.ensures in
    walking-short s es (test_of s.texts c.args.wanted) c.args.first (count_between c.args.first c.args.last) c.places.offset c.places.values c.args.left.now c.places.left inv
    c.take.new.left _ c.from_residual.result here.0 c.in_err-take-in-Some.ensures (p.1 ∙ ap Err p.2)
