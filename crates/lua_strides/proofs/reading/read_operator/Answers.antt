use Rattle.lua_code.specs.Seen.{operator_seen}
use Rattle.lua_in_place.specs.InPlace.{operated}
use Rattle.lua_state.specs.LuaStoreSeen.{seen}
use Rattle.lua_state.specs.LuaStoreParts.{IsOf}
use Rattle.lua_strides.proofs.Readings.{some_both}
use Rattle.lua_strides.proofs.reading.read_operator.Goals as goal

pub returns-in-Some : goal.returns-in-Some
returns-in-Some c = λ x y h.
    let k = rw c.in-Some.is at h in
    rw (k.0.is, k.1.is)
    (c.read_with.ensures c.args.store.now (operated c.args.store.now.heap (operator_seen c.args.op) (seen c.args.store.now.texts c.in-Some.a.value) (seen c.args.store.now.texts c.in-Some.b.value))
    (some_both (IsOf c.args.store.now) _ c.operated-value.result c.operated-value.ensures.of c.operated-value.ensures.value))
