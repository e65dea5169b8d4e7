use Rattle.lua_rows.specs.Ready.{IsCallee, IsMethodOf}
use Rattle.lua_turns.proofs.LuaStridesReadings.{some_to}
use Rattle.lua_rows.proofs.Methods.{method_of_text}
use Rattle.lua_rows.proofs.ready.text_method.Goals as goal

pub get-requires-clause-key : goal.get-requires-clause-key
get-requires-clause-key c = (rw c.in-Some.is at (c.constant_at_hand.ensures c.args.store.now c.requires)).of

pub returns-in-Some : goal.returns-in-Some
returns-in-Some c =
    let s = c.args.store.now in
    let m = c.args.state.now in
    some_to (IsCallee c.get.result) (IsMethodOf s m c.args.object c.args.name) c.callee_of.result
    (λ f callee. method_of_text s m c.args.object c.get.result c.in-Text.field-0 c.in-Some.text c.args.name f c.in-Text.is (rw c.in-Some.is at (c.constant_at_hand.ensures s c.requires)) c.get.ensures.value callee) c.callee_of.ensures
