use Rattle.std.proofs.Common.{◌∷◌}
use Rattle.lua_modules.specs.LuaStackDeclaredFocusFocusTheVariants as focus
use Rattle.lua_modules.specs.LuaStackDeclaredFrameFrameTheVariants as frame
use Rattle.lua_calls.proofs.Enters.{on_above}
use Rattle.lua_calls.proofs.framed.ask.Goals as goal

pub returns : goal.returns
returns c = λ l.
    rw (c.in_ok-push.ensures.ok, ← c.asked_of-asked.ensures.seen c.args.store.now.texts, ← c.in_ok-question.ensures)
    (on_above c.args.store.now c.args.state.now (frame.Hears c.asked_of-asked.result c.args.line ∷ c.args.state.now.frames) l (focus.Asks c.in_ok-question.question) c.requires.state
    (c.asked_of-asked.ensures.of c.args.store.now c.requires.awaited, c.requires.state.frames) tt)
