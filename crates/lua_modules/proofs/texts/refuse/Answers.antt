use Rattle.std.proofs.Common.{◌∙◌, ap, subst}
use Rattle.lua_state.specs.LuaMeaningMessages.{bad_argument}
use Rattle.lua_state.specs.LuaSlotsErrors.{fails}
use Rattle.lua_state.specs.Seen.{slots_of, frames_of}
use Rattle.lua_state.specs.Makes.{Makes}
use Rattle.lua_modules.proofs.texts.refuse.Goals as goal

pub returns : goal.returns
returns c =
    subst (λ b. Makes c.args.store.now c.args.state.now c.args.left.now c.fail.new.store c.args.state.now c.fail.new.left (fails c.args.line b (frames_of c.args.store.now c.args.state.now) (slots_of c.args.store.now c.args.state.now)) c.in_ok-turn.turn)
    (c.as_slice-said.ensures.value ∙ c.in_ok-message.ensures ∙ ap (bad_argument 1 c.args.function.now) (c.as_slice-reason.ensures.value ∙ c.in_ok-why.ensures c.args.store.now.texts)) c.in_ok-turn.ensures.makes
