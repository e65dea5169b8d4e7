use Rattle.lua_in_place.specs.InPlace.{indexed}
use Rattle.lua_state.specs.LuaStoreSeen.{seen}
use Rattle.lua_state.specs.LuaStoreParts.{IsOf}
use Rattle.lua_strides.proofs.Readings.{some_both}
use Rattle.lua_strides.proofs.reading.read_index.Goals as goal

pub returns-in-Some : goal.returns-in-Some
returns-in-Some c = λ x y h.
    let k = rw c.in-Some.is at h in
    rw (k.0.is, k.1.is)
    (c.read_with.ensures c.args.store.now (indexed c.args.store.now.heap (seen c.args.store.now.texts c.in-Some.of.value) (seen c.args.store.now.texts c.in-Some.key.value))
    (some_both (IsOf c.args.store.now) _ c.indexed-value.result c.indexed-value.ensures.of c.indexed-value.ensures.value))
