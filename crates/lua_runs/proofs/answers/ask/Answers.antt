use Rattle.std.proofs.Common.{◌∙◌, refl, sym, ap, ◌∷◌, List}
use Rattle.std.specs.Prelude.{None}
use Rattle.lua_modules.specs.LuaSlotsCalls.{call}
use Rattle.lua_modules.specs.LuaSlotsPoints.{TextNow}
use Rattle.lua_store.specs.Seen.{seen}
use Rattle.lua_modules.specs.LuaStackDeclaredFrameFrame.{Frame}
use Rattle.lua_modules.specs.LuaStackSeen.{frames_seen, values_seen, joined_seen}
use Rattle.lua_modules.specs.LuaArmsSteps.{step_seen}
use Rattle.lua_modules.specs.LuaStateSeen.{slots_of, frames_of}
use Rattle.lua_runs.proofs.Parts.{with_frames_of, stepped}
use Rattle.lua_runs.proofs.answers.ask.Goals as goal

pub finish-requires-clause-state : goal.finish-requires-clause-state
finish-requires-clause-state c = rw c.in_ok-push.ensures.ok (with_frames_of c.args.store.now c.args.state.now _ c.requires.state ((c.requires.values, c.requires.before), c.requires.state.frames))

pub returns : goal.returns
returns c =
    stepped c.args.store.now c.finish.new.store c.args.state.now c.push.new.self c.args.left.now c.finish.new.left _ c.in_ok-step.step _
    (ap (λ vs. call (seen c.args.store.now.texts c.args.asked.0) (values_seen c.args.store.now.texts vs) None (TextNow (values_seen c.args.store.now.texts c.args.values) (joined_seen c.args.store.now.texts c.args.before) ∷ frames_of c.args.store.now c.args.state.now) (slots_of c.args.store.now c.args.state.now)) (sym c.in_ok-arguments.ensures)
    ∙ c.in_ok-step.ensures.move_ (TextNow (values_seen c.args.store.now.texts c.args.values) (joined_seen c.args.store.now.texts c.args.before) ∷ frames_of c.args.store.now c.args.state.now) (slots_of c.args.store.now c.args.state.now) refl
    ∙ ap (λ (fs : List Frame). step_seen c.args.store.now c.in_ok-step.step (frames_seen c.args.store.now.texts fs) (slots_of c.args.store.now c.args.state.now)) (sym c.in_ok-push.ensures.ok))
    c.in_ok-turn.ensures.makes
