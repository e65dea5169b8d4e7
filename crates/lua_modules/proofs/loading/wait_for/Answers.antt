use Rattle.std.proofs.Common.{◌∙◌, ap, sym, subst, ◌∷◌, List}
use Rattle.lua_code.specs.WkBaseDeclaredTitleTitle.{Title}
use Rattle.lua_code.specs.LuaMeaningQuestions.{DataAsked}
use Rattle.lua_state.specs.LuaSlotsPoints.{Hears}
use Rattle.lua_state.specs.LuaStoreSeen.{text_at}
use Rattle.lua_state.specs.LuaStackDeclaredFrameFrame.{Frame}
use Rattle.lua_state.specs.LuaStackOf.{FramesOf}
use Rattle.lua_state.specs.LuaStackSeen.{frames_seen}
use Rattle.lua_state.specs.Seen.{frames_of}
use Rattle.lua_modules.proofs.Parts.{with_frames_of}
use Rattle.lua_modules.proofs.loading.wait_for.Goals as goal

pub returns-clause-of : goal.returns-clause-of
returns-clause-of c =
    with_frames_of c.args.store.now c.args.state.now c.push.new.self c.requires.state
    (subst (FramesOf c.args.store.now) (sym c.in_ok-push.ensures.ok) (c.requires.text, c.requires.state.frames))

pub returns-clause-frames : goal.returns-clause-frames
returns-clause-frames c =
    ap (λ (fs : List Frame). frames_seen c.args.store.now.texts fs) c.in_ok-push.ensures.ok
    ∙ ap (λ (t : Title). Hears (DataAsked (text_at c.args.store.now.texts c.args.text.at) t) c.args.line ∷ frames_of c.args.store.now c.args.state.now) c.in_ok-named.ensures
