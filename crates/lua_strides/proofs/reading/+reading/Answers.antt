use Rattle.std.proofs.Common.{◌≡◌, refl, sym, ap, rules, w64, to_z, of_z, Some}
use Rattle.std.specs.Prelude.{ℤ}
use Rattle.lua_code.specs.LuaHeapValue.{Value as Plain, Nil, Truth, Number}
use Rattle.lua_state.specs.LuaSlotsSlots.{read_place}
use Rattle.lua_code.specs.Seen.{expression_seen, place_seen}
use Rattle.lua_code.proofs.Views.{expression-Nil, expression-Truth, expression-Number, expression-Text, expression-Local, expression-Global, expression-Index, expression-Operate}
use Rattle.lua_in_place.specs.InPlace.{in_place}
use Rattle.lua_state.specs.Seen.{slots_of, constants_in}
use Rattle.lua_strides.proofs.reading.+reading.Goals as goal

pub read-returns-in-Nil : goal.read-returns-in-Nil
read-returns-in-Nil t c = rw (c.in-Nil.is, expression-Nil) (c.read_with.ensures c.args.store.now (Some Nil) (tt, refl))

pub read-returns-in-Truth : goal.read-returns-in-Truth
read-returns-in-Truth t c = rw (c.in-Truth.is, expression-Truth) (c.read_with-in-Truth.ensures c.args.store.now (Some (Truth c.in-Truth.truth)) (tt, refl))

pub read-returns-in-Number : goal.read-returns-in-Number
read-returns-in-Number t c =
    let whole : to_z w64 (of_z w64 c.in-Number.number) ≡ c.in-Number.number = search rules in
    rw (c.in-Number.is, expression-Number) (c.read_with-in-Number.ensures c.args.store.now (Some (Number c.in-Number.number)) (tt, ap (λ (z : ℤ). Some (Number z)) (sym whole)))

pub read-returns-in-Text : goal.read-returns-in-Text
read-returns-in-Text t c = rw (c.in-Text.is, expression-Text) (c.read_text.ensures c.args.store.now c.requires)

pub read-returns-in-Global : goal.read-returns-in-Global
read-returns-in-Global t c = rw (c.in-Global.is, expression-Global) c.read_global.ensures

pub read-returns-in-Local : goal.read-returns-in-Local
read-returns-in-Local t c =
    let place = place_seen c.in-Local.place in
    rw (c.in-Local.is, expression-Local)
    (c.read_with-in-Local.ensures c.args.store.now (Some (read_place (slots_of c.args.store.now c.args.state.now) place)) (c.variable-value.ensures.of, ap (λ (v : Plain). Some v) (sym c.variable-value.ensures.value)))

pub read-returns-in-Index : goal.read-returns-in-Index
read-returns-in-Index t c =
    let s = slots_of c.args.store.now c.args.state.now in
    let k = constants_in c.args.store.now c.args.state.now in
    let known = rw (c.deref.ensures, c.deref-in-Index.ensures) at c.read_two-parts.ensures in
    rw (c.in-Index.is, expression-Index) (c.read_index.ensures (in_place k (expression_seen c.in-Index.of.value) s) (in_place k (expression_seen c.in-Index.key.value) s) known)

pub read-returns-in-Operate : goal.read-returns-in-Operate
read-returns-in-Operate t c =
    let s = slots_of c.args.store.now c.args.state.now in
    let k = constants_in c.args.store.now c.args.state.now in
    let known = rw (c.deref-in-Operate.ensures, c.deref-in-Operate-2.ensures) at c.read_two-parts-in-Operate.ensures in
    rw (c.in-Operate.is, expression-Operate) (c.read_operator.ensures (in_place k (expression_seen c.in-Operate.a.value) s) (in_place k (expression_seen c.in-Operate.b.value) s) known)
