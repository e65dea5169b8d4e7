use Rattle.std.proofs.Common.{◌∙◌, subst}
use Rattle.lua_code.specs.LuaSlotsCallBacks.{gives_text}
use Rattle.lua_state.specs.Seen.{slots_of, frames_of}
use Rattle.lua_state.specs.Makes.{Makes}
use Rattle.lua_acts.proofs.texts.give_text_of.Goals as goal

pub returns : goal.returns
returns c =
    subst (λ b. Makes c.args.store.now c.args.state.now c.args.left.now c.give_text.new.store c.args.state.now c.give_text.new.left (gives_text b (frames_of c.args.store.now c.args.state.now) (slots_of c.args.store.now c.args.state.now)) c.in_ok-turn.turn)
    (c.as_slice.ensures ∙ c.in_ok-text.ensures) c.in_ok-turn.ensures
