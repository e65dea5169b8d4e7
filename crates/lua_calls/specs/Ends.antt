-- HOW A FUNCTION OF THE LIBRARY ENDS whose charge is taken: with values, with an error, or as one that stops.
use Rattle.std.specs.Prelude.{◌≡◌, ℕ, List, Option, Result, Ok, Err}
use Rattle.page_run.specs.WkBaseDeclaredLeftLeft.{Left}
use Rattle.lua_tables.specs.LuaMeaningArguments.{Gives}
use Rattle.lua_tables.specs.LuaStoreDeclaredValueValue.{Value}
use Rattle.lua_tables.specs.LuaStoreSeen.{StoreView}
use Rattle.lua_modules.specs.LuaSlotsErrors.{ends}
use Rattle.lua_code.specs.LuaSlotsLibraries.{framed_end}
use Rattle.lua_tables.specs.LuaBasicDeclaredStopStop.{Stop}
use Rattle.lua_modules.specs.LuaStackSeen.{values_seen}
use Rattle.lua_modules.specs.LuaStateDeclaredStateState.{State}
use Rattle.lua_modules.specs.LuaStateDeclaredTurnTurn.{Turn}
use Rattle.lua_modules.specs.LuaStateSeen.{slots_of, frames_of}
use Rattle.lua_modules.specs.LuaStateMakes.{Makes}
use Rattle.lua_acts.specs.Stops.{StopsAs}
use Rattle.lua_gsubs.specs.LuaMeaningGsub.{nothing_yet}
use Rattle.lua_code.specs.LuaSlotsGsub.{replaces}
use Rattle.lua_gsubs.specs.LuaReplacingSeen.{job_seen}
use Rattle.lua_gsubs.specs.declared.beginning.Begun.{Begun}
use Rattle.lua_gsubs.specs.declared.beginning.Begun.TheVariants as begun
use Rattle.mw_frame_calls.specs.declared.answer.FrameAnswer.{FrameAnswer}
use Rattle.mw_frame_calls.specs.Seen.{end_seen}

-- one that calls back nobody
abbrev pub EndsAs : StoreView → State → Left → Option ℕ → Result (List Value) Stop → StoreView → Left → Turn → Type 0
EndsAs s m l line (Ok vs) t l' r = Makes s m l t m l' (ends (Gives (values_seen s.texts vs)) line (frames_of s m) (slots_of s m)) r
EndsAs s m l line (Err e) t l' r = StopsAs s m l line e t l' r

-- one that sees the frames, which may go on from there in another state
abbrev pub FramedEndsAs : StoreView → State → Left → Option ℕ → Result FrameAnswer Stop → StoreView → State → Left → Turn → Type 0
FramedEndsAs s m l line (Ok a) t m' l' r = Makes s m l t m' l' (framed_end (end_seen s.texts a) line (frames_of s m) (slots_of s m)) r
FramedEndsAs s m l line (Err e) t m' l' r = (m' ≡ m) × StopsAs s m l line e t l' r

-- a call of `gsub`, which has answered, or asks a table or a function from there on
abbrev pub BegunMakes : StoreView → State → Left → Option ℕ → Result Begun Stop → StoreView → State → Left → Turn → Type 0
BegunMakes s m l line (Ok (begun.Answers vs)) t m' l' r = (m' ≡ m) × EndsAs s m l line (Ok vs) t l' r
BegunMakes s m l line (Ok (begun.Asks j limit)) t m' l' r = Makes s m l t m' l' (replaces (job_seen s.texts j) limit nothing_yet line (frames_of s m) (slots_of s m)) r
BegunMakes s m l line (Err e) t m' l' r = (m' ≡ m) × StopsAs s m l line e t l' r
