use Rattle.std.proofs.Common.{◌∙◌, ap, sym}
use Rattle.std.specs.Prelude.{ℕ, List}
use Rattle.lua_code.specs.LuaHeapValue.{Text}
use Rattle.lua_in_place.specs.InPlace.{entry}
use Rattle.lua_state.specs.LuaStoreDeclaredValueValue.{Value}
use Rattle.lua_state.specs.LuaStoreParts.{IsOf}
use Rattle.lua_state.specs.Seen.{constants_in}
use Rattle.lua_strides.proofs.Readings.{some_both, some_to}
use Rattle.lua_strides.proofs.reading.read_global.Goals as goal

pub entry-value-requires-clause-key : goal.entry-value-requires-clause-key
entry-value-requires-clause-key c = (rw c.in-Some.is at (c.constant_at_hand.ensures c.args.store.now c.requires)).of

pub returns-in-Some : goal.returns-in-Some
returns-in-Some c =
    let s = c.args.store.now in
    let g = c.args.state.now.env.globals.at in
    let known = rw c.in-Some.is at (c.constant_at_hand.ensures s c.requires) in
    c.read_with.ensures s (entry s.heap g (Text (constants_in s c.args.state.now c.args.name)))
    (some_both (IsOf s) _ c.entry-value.result c.entry-value.ensures.of
    (some_to _ _ c.entry-value.result (λ (v : Value) e. ap (λ (b : List ℕ). entry s.heap g (Text b)) (sym known.is) ∙ e) c.entry-value.ensures.value))
