use Rattle.std.proofs.Common.{refl, None}
use Rattle.std.specs.Prelude.{◌∷◌, []}
use Rattle.lua_state.specs.LuaStoreSeen.{seen}
use Rattle.lua_code.specs.LuaMeaningCallBacks.{text_of}
use Rattle.lua_code.specs.LuaMeaningPending.{ToStringWaits}
use Rattle.lua_code.specs.LuaSlotsCallBacks.{gives_text}
use Rattle.lua_state.specs.LuaSlotsCalls.{call}
use Rattle.lua_state.specs.LuaSlotsPoints.{Waits}
use Rattle.lua_state.specs.Seen.{slots_of, frames_of}
use Rattle.lua_acts.proofs.Handlers.{without, asked}
use Rattle.lua_acts.proofs.strings.string_by.Goals as goal

pub handler-found-requires-clause-name : goal.handler-found-requires-clause-name
handler-found-requires-clause-name c = c.requires.state.env.to_string.0

pub returns-then-is_nil : goal.returns-then-is_nil
returns-then-is_nil c =
    let v = seen c.args.store.now.texts c.args.value in
    let fs = frames_of c.args.store.now c.args.state.now in
    let s = slots_of c.args.store.now c.args.state.now in
    without c.args.store.now c.give_text_of.new.store c.args.state.now c.args.state.now c.args.left.now c.give_text_of.new.left c.in_ok-turn.turn c.handler-found.result c.args.value v _ _
    (λ h. call h (v ∷ []) None (Waits ToStringWaits c.args.line ∷ fs) s) (gives_text (text_of v) fs s) refl c.handler-found.ensures.value c.requires.state.env.to_string.1 (c.if-is_nil.ensures c.args.store.now.texts) c.in_ok-turn.ensures

pub returns : goal.returns
returns c =
    let v = seen c.args.store.now.texts c.args.value in
    let fs = frames_of c.args.store.now c.args.state.now in
    let s = slots_of c.args.store.now c.args.state.now in
    asked c.args.store.now c.call_and_wait.new.store c.args.state.now c.call_and_wait.new.state c.args.left.now c.call_and_wait.new.left c.in_ok-turn-2.turn c.handler-found.result c.args.value v _ _
    (λ h. call h (v ∷ []) None (Waits ToStringWaits c.args.line ∷ fs) s) (gives_text (text_of v) fs s) refl c.handler-found.ensures.value c.requires.state.env.to_string.1 (c.if-is_nil.ensures c.args.store.now.texts)
    (rw c.in_ok-arguments.ensures at c.in_ok-turn-2.ensures)
