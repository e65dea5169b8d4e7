use Rattle.lua_in_place.specs.InPlace.{applied}
use Rattle.lua_state.specs.LuaStoreSeen.{seen}
use Rattle.lua_state.specs.LuaStoreParts.{IsOf}
use Rattle.lua_strides.proofs.Readings.{some_both}
use Rattle.lua_strides.proofs.reading.read_unary.Goals as goal

pub returns-in-Some : goal.returns-in-Some
returns-in-Some c = λ s x h.
    let k = rw c.in-Some.is at h in
    rw k.is
    (c.read_with.ensures s (applied s.heap c.args.op (seen s.texts c.in-Some.a.value)) (some_both (IsOf s) _ c.applied-value.result (c.applied-value.ensures.of s) (c.applied-value.ensures.value s)))
