use Rattle.std.specs.Prelude.{◌∷◌, [], ◌++◌, None}
use Rattle.lua_code.specs.LuaHeapValue.{is_nil}
use Rattle.lua_code.specs.LuaMeaningCallBacks.{text_of}
use Rattle.lua_store.specs.Seen.{seen}
use Rattle.lua_modules.specs.LuaSlotsPoints.{Now, Texts, TextNow}
use Rattle.lua_modules.specs.LuaSlotsCalls.{call}
use Rattle.lua_modules.specs.LuaStackSeen.{values_seen, joined_seen}
use Rattle.lua_modules.specs.LuaStateSeen.{slots_of, frames_of}
use Rattle.lua_runs.proofs.Behind.{by_handler}
use Rattle.lua_runs.proofs.Parts.{chosen, other}
use Rattle.lua_runs.proofs.answers.text_by.Goals as goal

pub handler-handler-requires-clause-name : goal.handler-handler-requires-clause-name
handler-handler-requires-clause-name c = c.requires.state.env.to_string.0

pub returns-then-is_nil : goal.returns-then-is_nil
returns-then-is_nil c =
    by_handler c.args.store.now c.with_plain.new.store c.args.state.now c.args.state.now c.args.left.now c.args.left.now c.in_ok-turn.turn c.handler-handler.result c.args.value c.args.values c.args.before _ _
    c.handler-handler.ensures.value c.requires.state.env.to_string.1
    (chosen c.args.store.now c.with_plain.new.store c.args.state.now c.args.state.now c.args.left.now c.args.left.now (is_nil (seen c.args.store.now.texts c.handler-handler.result))
    (Now (Texts (values_seen c.args.store.now.texts c.args.values) (joined_seen c.args.store.now.texts c.args.before ++ text_of (seen c.args.store.now.texts c.args.value)) (frames_of c.args.store.now c.args.state.now)) (slots_of c.args.store.now c.args.state.now))
    (call (seen c.args.store.now.texts c.handler-handler.result) (seen c.args.store.now.texts c.args.value ∷ []) None (TextNow (values_seen c.args.store.now.texts c.args.values) (joined_seen c.args.store.now.texts c.args.before) ∷ frames_of c.args.store.now c.args.state.now) (slots_of c.args.store.now c.args.state.now))
    c.in_ok-turn.turn (c.if-is_nil.ensures c.args.store.now.texts) (c.in_ok-turn.ensures c.args.left.now))

pub returns : goal.returns
returns c =
    by_handler c.args.store.now c.ask.new.store c.args.state.now c.ask.new.state c.args.left.now c.ask.new.left c.in_ok-turn-2.turn c.handler-handler.result c.args.value c.args.values c.args.before _ _
    c.handler-handler.ensures.value c.requires.state.env.to_string.1
    (other c.args.store.now c.ask.new.store c.args.state.now c.ask.new.state c.args.left.now c.ask.new.left (is_nil (seen c.args.store.now.texts c.handler-handler.result))
    (Now (Texts (values_seen c.args.store.now.texts c.args.values) (joined_seen c.args.store.now.texts c.args.before ++ text_of (seen c.args.store.now.texts c.args.value)) (frames_of c.args.store.now c.args.state.now)) (slots_of c.args.store.now c.args.state.now))
    (call (seen c.args.store.now.texts c.handler-handler.result) (seen c.args.store.now.texts c.args.value ∷ []) None (TextNow (values_seen c.args.store.now.texts c.args.values) (joined_seen c.args.store.now.texts c.args.before) ∷ frames_of c.args.store.now c.args.state.now) (slots_of c.args.store.now c.args.state.now))
    c.in_ok-turn-2.turn (c.if-is_nil.ensures c.args.store.now.texts) c.in_ok-turn-2.ensures)
