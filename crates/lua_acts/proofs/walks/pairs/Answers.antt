use Rattle.std.proofs.Common.{None}
use Rattle.std.specs.Prelude.{◌∷◌, [], codes}
use Rattle.lua_code.specs.LuaHeapValue as kind
use Rattle.lua_libs.specs.LuaHeapDeclaredLibraryLibraryTheVariants.{BasicNext}
use Rattle.lua_libs.specs.LuaMeaningArguments.{a_table}
use Rattle.lua_code.specs.LuaMeaningPending.{PairsWaits}
use Rattle.lua_code.specs.LuaMeaningValues.{first}
use Rattle.lua_state.specs.LuaStoreSeen.{seen}
use Rattle.lua_state.specs.LuaSlotsCalls.{call}
use Rattle.lua_state.specs.LuaSlotsErrors.{gives, with_argument}
use Rattle.lua_state.specs.LuaSlotsPoints.{Waits}
use Rattle.lua_state.specs.LuaStackSeen.{values_seen}
use Rattle.lua_state.proofs.LuaStackOpenings.{first_of}
use Rattle.lua_state.specs.Seen.{slots_of, frames_of}
use Rattle.lua_acts.proofs.Handlers.{without, asked}
use Rattle.lua_acts.proofs.Lists.{seen_first, with_first}
use Rattle.lua_acts.proofs.walks.pairs.Goals as goal

pub handler-found-requires-clause-of : goal.handler-found-requires-clause-of
handler-found-requires-clause-of c = first_of c.args.store.now c.args.arguments c.first-value.result c.first-value.ensures c.requires.arguments

pub handler-found-requires-clause-name : goal.handler-found-requires-clause-name
handler-found-requires-clause-name c = c.requires.state.env.pairs.0

pub ask-requires-clause-value : goal.ask-requires-clause-value
ask-requires-clause-value c = first_of c.args.store.now c.args.arguments c.first-value.result c.first-value.ensures c.requires.arguments

pub returns-then-is_nil : goal.returns-then-is_nil
returns-then-is_nil c =
    let args = values_seen c.args.store.now.texts c.args.arguments in
    let fs = frames_of c.args.store.now c.args.state.now in
    let s = slots_of c.args.store.now c.args.state.now in
    without c.args.store.now c.begin.new.store c.args.state.now c.args.state.now c.args.left.now c.begin.new.left c.in_ok-turn.turn c.handler-found.result c.first-value.result (first args) _ _
    (λ h. call h (first args ∷ []) None (Waits PairsWaits c.args.line ∷ fs) s)
    (with_argument (a_table 1 (codes "pairs") args) c.args.line fs s (λ t. gives (kind.Builtin BasicNext ∷ kind.Table t ∷ kind.Nil ∷ []) fs s))
    (seen_first c.args.store.now.texts c.args.arguments c.first-value.result c.first-value.ensures) c.handler-found.ensures.value c.requires.state.env.pairs.1 (c.if-is_nil.ensures c.args.store.now.texts) c.in_ok-turn.ensures

pub returns : goal.returns
returns c =
    let args = values_seen c.args.store.now.texts c.args.arguments in
    let fs = frames_of c.args.store.now c.args.state.now in
    let s = slots_of c.args.store.now c.args.state.now in
    asked c.args.store.now c.ask.new.store c.args.state.now c.ask.new.state c.args.left.now c.ask.new.left c.in_ok-turn-2.turn c.handler-found.result c.first-value.result (first args) _ _
    (λ h. call h (first args ∷ []) None (Waits PairsWaits c.args.line ∷ fs) s)
    (with_argument (a_table 1 (codes "pairs") args) c.args.line fs s (λ t. gives (kind.Builtin BasicNext ∷ kind.Table t ∷ kind.Nil ∷ []) fs s))
    (seen_first c.args.store.now.texts c.args.arguments c.first-value.result c.first-value.ensures) c.handler-found.ensures.value c.requires.state.env.pairs.1 (c.if-is_nil.ensures c.args.store.now.texts)
    (with_first c.args.store.now c.ask.new.store c.args.state.now c.ask.new.state c.args.left.now c.ask.new.left c.in_ok-turn-2.turn c.args.arguments c.first-value.result
    (λ v. call (seen c.args.store.now.texts c.handler-found.result) (v ∷ []) None (Waits PairsWaits c.args.line ∷ fs) s) c.first-value.ensures c.in_ok-turn-2.ensures)
