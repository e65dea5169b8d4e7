use Rattle.std.proofs.Common.{◌∙◌, ap, subst}
use Rattle.std.specs.Prelude.{None}
use Rattle.lua_modules.specs.LuaMeaningMessages.{no_data_module}
use Rattle.lua_modules.specs.LuaSlotsErrors.{fails}
use Rattle.lua_modules.specs.LuaStateMakes.{Makes}
use Rattle.lua_modules.specs.LuaStateSeen.{slots_of, frames_of}
use Rattle.lua_runs.proofs.starts.lacks_data.Goals as goal

pub returns : goal.returns
returns c =
    subst (λ b. Makes c.args.store.now c.args.state.now c.args.left.now c.fail.new.store c.args.state.now c.fail.new.left (fails None b (frames_of c.args.store.now c.args.state.now) (slots_of c.args.store.now c.args.state.now)) c.in_ok-turn.turn)
    (c.as_slice-said.ensures.value ∙ c.in_ok-message.ensures ∙ ap no_data_module (c.as_slice-text.ensures ∙ c.in_ok-name.ensures)) c.in_ok-turn.ensures.makes
