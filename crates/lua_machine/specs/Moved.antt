-- A MOVE OF A WHOLE MACHINE in code: that it is the move of `lua_slots`, and where a machine moves no more.
use Rattle.std.specs.Prelude.{◌≡◌, ℕ, Bool, true, false, List, [], ◌∷◌}
use Rattle.page_run.specs.WkBaseDeclaredLeftLeft.{Left}
use Rattle.lua_store.specs.Seen.{StoreView}
use Rattle.lua_blocks.specs.LuaSlotsPoints.{Point}
use Rattle.lua_blocks.specs.LuaSlotsMoves.{moves}
use Rattle.lua_environment.specs.LuaStackDeclaredFocusFocus.{Focus}
use Rattle.lua_environment.specs.LuaStackDeclaredFocusFocusTheVariants as focus
use Rattle.lua_rows.specs.LuaStackDeclaredFrameFrame.{Frame}
use Rattle.lua_blocks.specs.LuaStackSeen.{focus_seen}
use Rattle.lua_rows.specs.LuaStateDeclaredStateState.{State}
use Rattle.lua_rows.specs.LuaStateDeclaredTurnTurn.{Turn}
use Rattle.lua_blocks.specs.LuaStateDeclaredOutcomeOutcomeTheVariants as outcome
use Rattle.lua_blocks.specs.LuaStateSeen.{slots_of, frames_of}
use Rattle.lua_runs.specs.LuaStateWorlds.{world_seen}
use Rattle.lua_blocks.specs.LuaStateMakes.{LateCounts}
use Rattle.lua_machine.specs.declared.event.Event.{Event}
use Rattle.lua_machine.specs.declared.event.Event.TheVariants as event

abbrev pub point_of : StoreView → State → Focus → Point
point_of s m f = focus_seen s f (frames_of s m)

-- From a store, a state, what is next, what is left and the counter of turns to those after the move. Where an allowance is spent, the objects of
-- the store are as they were, or those to which the move would have led. At its end, and at a question, a machine stays where it is.
abbrev pub MovesTo : StoreView → State → Focus → Left → ℕ → StoreView → State → Left → ℕ → Turn → Type 0
MovesTo s m f l k t m' l' k' r = LateCounts s m l k t m' l' k' (moves (world_seen m.codes.world) (point_of s m f) (slots_of s m)) r

-- WHERE IT MOVES NO MORE: at a question, and at its end, where no frame waits
abbrev pub is_none : List Frame → Bool
is_none [] = true
is_none (f ∷ fs) = false

abbrev pub is_event : List Frame → Focus → Bool
is_event fs (focus.Gives values) = is_none fs
is_event fs (focus.Jumps jump) = is_none fs
is_event fs (focus.Asks question) = true
is_event fs _ = false

-- the event there
abbrev pub IsEventAt : Focus → Event → Type 0
IsEventAt (focus.Gives values) e = e ≡ event.Over (outcome.Goes values)
IsEventAt (focus.Jumps jump) e = e ≡ event.Over (outcome.Jumps jump)
IsEventAt (focus.Asks question) e = e ≡ event.Asks question.value
IsEventAt _ e = ⊥
