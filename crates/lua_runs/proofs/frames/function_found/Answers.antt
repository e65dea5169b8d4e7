use Rattle.std.proofs.Common.{subst}
use Rattle.std.specs.Prelude.{◌∷◌, [], ◌++◌, None, codes}
use Rattle.page_run.specs.Outcome.{Goes}
use Rattle.lua_code.specs.LuaMeaningStart.{Failed}
use Rattle.lua_code.specs.LuaMeaningValues.{is_function}
use Rattle.lua_store.specs.Seen.{seen}
use Rattle.lua_modules.specs.LuaSlotsPoints.{AnswerNow}
use Rattle.lua_modules.specs.LuaSlotsCalls.{call}
use Rattle.lua_code.specs.LuaSlotsStarts.{invoke_ends}
use Rattle.lua_modules.specs.LuaStateSeen.{slots_of, frames_of}
use Rattle.lua_modules.specs.LuaStateMakes.{Makes}
use Rattle.lua_runs.proofs.Parts.{chosen, other}
use Rattle.lua_runs.proofs.frames.function_found.Goals as goal

pub returns-then-is_function : goal.returns-then-is_function
returns-then-is_function c =
    chosen c.args.store.now c.call_function.new.store c.args.state.now c.call_function.new.state c.args.left.now c.call_function.new.left (is_function (seen c.args.store.now.texts c.args.function))
    (call (seen c.args.store.now.texts c.args.function) (seen c.args.store.now.texts c.args.frame ∷ []) None (AnswerNow ∷ frames_of c.args.store.now c.args.state.now) (slots_of c.args.store.now c.args.state.now))
    (invoke_ends (Goes (Failed (codes "Script error: The function \"" ++ c.args.name ++ codes "\" does not exist."))) (frames_of c.args.store.now c.args.state.now) (slots_of c.args.store.now c.args.state.now)) c.in_ok-turn.turn
    (c.if-is_function.ensures c.args.store.now.texts) c.in_ok-turn.ensures

pub returns : goal.returns
returns c =
    other c.args.store.now c.no_such_function.new.store c.args.state.now c.args.state.now c.args.left.now c.args.left.now (is_function (seen c.args.store.now.texts c.args.function))
    (call (seen c.args.store.now.texts c.args.function) (seen c.args.store.now.texts c.args.frame ∷ []) None (AnswerNow ∷ frames_of c.args.store.now c.args.state.now) (slots_of c.args.store.now c.args.state.now))
    (invoke_ends (Goes (Failed (codes "Script error: The function \"" ++ c.args.name ++ codes "\" does not exist."))) (frames_of c.args.store.now c.args.state.now) (slots_of c.args.store.now c.args.state.now)) c.in_ok-turn-2.turn
    (c.if-is_function.ensures c.args.store.now.texts)
    (subst (λ n. Makes c.args.store.now c.args.state.now c.args.left.now c.no_such_function.new.store c.args.state.now c.args.left.now
    (invoke_ends (Goes (Failed (codes "Script error: The function \"" ++ n ++ codes "\" does not exist."))) (frames_of c.args.store.now c.args.state.now) (slots_of c.args.store.now c.args.state.now)) c.in_ok-turn-2.turn)
    c.as_slice.ensures (c.in_ok-turn-2.ensures c.args.left.now))
