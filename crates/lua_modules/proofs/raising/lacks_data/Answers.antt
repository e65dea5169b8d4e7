use Rattle.std.proofs.Common.{◌∙◌, subst}
use Rattle.lua_state.specs.LuaSlotsErrors.{fails_quoting}
use Rattle.lua_state.specs.Seen.{slots_of, frames_of}
use Rattle.lua_state.specs.Makes.{Makes}
use Rattle.lua_modules.proofs.raising.lacks_data.Goals as goal

pub returns : goal.returns
returns c =
    subst (λ b. Makes c.args.store.now c.args.state.now c.args.left.now c.fail_quoting.new.store c.args.state.now c.fail_quoting.new.left (fails_quoting c.args.line b (frames_of c.args.store.now c.args.state.now) (slots_of c.args.store.now c.args.state.now)) c.in_ok-turn.turn)
    (c.as_slice-said.ensures.value ∙ c.in_ok-message.ensures) c.in_ok-turn.ensures.makes
