-- WHAT A MACHINE HOLDS, AS `lua_slots` SEES IT; and what it comes to.
use Rattle.std.specs.Prelude.{ℕ, List}
use Rattle.mw_frames.specs.WkBaseDeclaredLeftLeft.{Left}
use Rattle.lua_arms.specs.PageRunState.{Tally}
use Rattle.lua_code.specs.LuaHeapValue.{Value as Plain}
use Rattle.lua_goes.specs.PageRunOutcome.{Outcome as PlainOutcome, Goes, Jumps}
use Rattle.lua_code.specs.LuaMeaningActs as act
use Rattle.mw_frames.specs.LuaStoreSeen.{StoreView, seen}
use Rattle.lua_code.specs.LuaSlotsCode.{Constants}
use Rattle.lua_goes.specs.LuaSlotsSlots.{Slots}
use Rattle.lua_arms.specs.LuaSlotsCalls.{constants_of}
use Rattle.lua_goes.specs.LuaSlotsPoints.{SFrame}
use Rattle.lua_code.specs.LuaSlotsEnact.{Funds, all_given_back, Enacted, Stands, Short}
use Rattle.lua_arms.specs.LuaStackSeen.{Texts, given_seen, jump_seen, frames_seen, registers_seen, activations_seen, focus_seen}
use Rattle.lua_state.specs.declared.outcome.Outcome.{Outcome}
use Rattle.lua_state.specs.declared.outcome.Outcome.TheVariants as outcome
use Rattle.lua_state.specs.declared.progress.Progress.{Progress}
use Rattle.lua_state.specs.declared.progress.Progress.TheVariants as progress
use Rattle.lua_state.specs.declared.state.State.{State}
use Rattle.lua_state.specs.declared.turn.Turn.{Turn}
use Rattle.lua_state.specs.declared.turn.Turn.TheVariants as turn
use Rattle.mw_frames.specs.Scenes.{made, frames_seen as scenes_seen}
use Rattle.lua_titled.specs.Seen.{by_title}
use Rattle.lua_state.specs.Worlds.{world_seen}

-- MODULES that were required, and data that was loaded, by title
abbrev pub progress_seen : Texts → Progress → act.Progress
progress_seen texts progress.Running = act.Running
progress_seen texts (progress.Finished v) = act.Finished (seen texts v)

-- ALL OF IT
abbrev pub slots_of : StoreView → State → Slots
slots_of s m = record {
  heap = s.heap;
  globals = m.env.globals.at;
  strings = m.env.strings.at;
  modules = by_title (progress_seen s.texts) m.modules;
  data_ = by_title (seen s.texts) m.loaded;
  frames = scenes_seen (made m.scenes);
  regs = registers_seen s.texts m.regs;
  functions = activations_seen s m.functions;
}

abbrev pub frames_of : StoreView → State → List SFrame
frames_of s m = frames_seen s.texts m.frames

-- the constants of the running function's module
abbrev pub constants_in : StoreView → State → Constants
constants_in s m = constants_of (world_seen m.codes.world) (slots_of s m)

-- WHAT REACHES A FRAME
abbrev pub outcome_seen : Texts → Outcome → PlainOutcome (List Plain) act.Jump
outcome_seen texts (outcome.Goes g) = Goes (given_seen texts g)
outcome_seen texts (outcome.Jumps j) = Jumps (jump_seen texts j)

-- what is left, where so many nodes were counted, and this was told of the run otherwise
abbrev pub funds_of : Left → State → Tally → ℕ → Funds
funds_of left m told n = record { left = left; in_progress = m.calls; tally = record told { height = m.height; nodes = n } }

-- WHAT A TURN COMES TO: what is next, above the frames that wait; or an allowance is spent
abbrev pub turn_seen : StoreView → State → Turn → Funds → Enacted
turn_seen s m (turn.On focus) f = Stands (focus_seen s focus (frames_of s m)) (slots_of s m) f
turn_seen s m (turn.Spent which) f = Short which (all_given_back f)
