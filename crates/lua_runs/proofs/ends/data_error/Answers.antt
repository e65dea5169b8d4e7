use Rattle.std.proofs.Common.{◌∙◌, subst}
use Rattle.lua_code.specs.LuaHeapValue as kind
use Rattle.lua_code.specs.LuaMeaningActs as act
use Rattle.lua_modules.specs.LuaSlotsErrors.{jumps}
use Rattle.lua_modules.specs.LuaStateSeen.{slots_of, frames_of}
use Rattle.lua_modules.specs.LuaStateMakes.{Makes}
use Rattle.lua_runs.proofs.ends.data_error.Goals as goal

pub returns : goal.returns
returns c = λ l. subst (λ b. Makes c.args.store.now c.args.state.now l c.raise.new.store c.args.state.now l (jumps (act.Raised (kind.Text b)) (frames_of c.args.store.now c.args.state.now) (slots_of c.args.store.now c.args.state.now)) c.in_ok-turn.turn) (c.as_slice-message.ensures.value ∙ c.in_ok-text.ensures) (c.in_ok-turn.ensures l)
