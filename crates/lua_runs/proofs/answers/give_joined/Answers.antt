use Rattle.std.proofs.Common.{◌∙◌, subst}
use Rattle.page_run.specs.Outcome.{Goes}
use Rattle.lua_code.specs.LuaMeaningStart.{Done}
use Rattle.lua_code.specs.LuaSlotsStarts.{invoke_ends}
use Rattle.lua_modules.specs.LuaStateSeen.{slots_of, frames_of}
use Rattle.lua_modules.specs.LuaStateMakes.{Makes}
use Rattle.lua_runs.proofs.answers.give_joined.Goals as goal

pub returns : goal.returns
returns c = λ l. subst (λ b. Makes c.args.store.now c.args.state.now l c.done.new.store c.args.state.now l (invoke_ends (Goes (Done b)) (frames_of c.args.store.now c.args.state.now) (slots_of c.args.store.now c.args.state.now)) c.in_ok-turn.turn) (c.as_slice-text.ensures.value ∙ c.in_ok-answer.ensures) (c.in_ok-turn.ensures l)
