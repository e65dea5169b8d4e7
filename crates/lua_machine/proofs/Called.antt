-- A FUNCTION OF THE LIBRARY IS CALLED, from where its arguments reach the frame that calls it.
use Rattle.std.proofs.Common.{◌≡◌, ℕ, ◌-◌, ◌<◌, ◌≤◌, false, List, ◌∷◌, Some, refl, sym, subst}
use Rattle.page_run.specs.WkBaseDeclaredLeftLeft.{Left}
use Rattle.page_run.specs.declared.which.Which.TheVariants.{Steps}
use Rattle.lua_rows.specs.LuaHeapDeclaredLibraryLibrary.{Library}
use Rattle.lua_store.specs.Seen.{StoreView}
use Rattle.lua_store.specs.declared.value.Value.TheVariants as own
use Rattle.lua_store.proofs.Later.{later-itself}
use Rattle.lua_code.specs.LuaSlotsLibraries.{enters_library}
use Rattle.lua_environment.specs.LuaStackDeclaredFocusFocusTheVariants as focus
use Rattle.lua_environment.specs.LuaStackDeclaredFrameThingTheVariants as thing
use Rattle.lua_rows.specs.LuaStackDeclaredFrameFrame.{Frame}
use Rattle.lua_rows.specs.LuaStackDeclaredFrameFrameTheVariants as frame
use Rattle.lua_rows.specs.LuaStackDeclaredFrameInExpressionTheVariants as in_expression
use Rattle.lua_evals.specs.LuaStackDeclaredValuesGiven.{Given}
use Rattle.lua_blocks.specs.LuaStackLists.{given_values}
use Rattle.lua_environment.specs.LuaStackOf.{GivenOf}
use Rattle.lua_blocks.specs.LuaStackSeen.{values_seen}
use Rattle.lua_rows.specs.LuaStateDeclaredStateState.{State}
use Rattle.lua_rows.specs.LuaStateDeclaredTurnTurn.{Turn}
use Rattle.lua_rows.specs.LuaStateDeclaredTurnTurnTheVariants as turn
use Rattle.lua_blocks.specs.LuaStateMakes.{LateCounts}
use Rattle.lua_blocks.specs.LuaStateOf.{StateOf}
use Rattle.lua_blocks.specs.LuaStateSeen.{slots_of, frames_of}
use Rattle.lua_runs.specs.LuaStateWorlds.{world_seen}
use Rattle.lua_blocks.proofs.LuaStateMaking.{counts_late}
use Rattle.lua_machine.specs.Going.{GoesTo}
use Rattle.lua_machine.specs.Moved.{is_event, MovesTo}
use Rattle.lua_machine.proofs.Loops.{two_go}
use Rattle.lua_machine.proofs.Moves.{late_step_paid, popped, step_spent, values_given, with_frames}

abbrev calling : Library → ℕ → Frame
calling which line = frame.Expression (in_expression.CallNow (own.Builtin which) line)

moves_on : (fs : List Frame) (f : Frame) (more : List Frame) (values : Given) → fs ≡ f ∷ more → is_event fs (focus.Gives values) ≡ false
moves_on fs f more values e = subst (λ (x : List Frame). is_event x (focus.Gives values) ≡ false) (sym e) refl

pub called_of : (s : StoreView) (m : State) (which : Library) (line : ℕ) (more fs : List Frame) → m.frames ≡ calling which line ∷ more → fs ≡ more → StateOf s m → StateOf s (with_frames m fs)
called_of s m which line more fs is n state = subst (λ (x : List Frame). StateOf s (with_frames m x)) (sym n) (popped s m (calling which line) more is state).0

module _ (s : StoreView) (m : State) (l : Left) (k : ℕ) (values : Given) (which : Library) (line : ℕ) (more fs : List Frame) (is : m.frames ≡ calling which line ∷ more) (n : fs ≡ more) (state : StateOf s m) (of : GivenOf s values) where
  -- the frame waits no more, and the function of the library begins
  begins_library : MovesTo s m (focus.Gives values) l k s (with_frames m fs) l k (turn.On (focus.Starts (thing.Library which (given_values values) (Some line))))
  begins_library = subst (λ (x : List Frame). MovesTo s m (focus.Gives values) l k s (with_frames m x) l k (turn.On (focus.Starts (thing.Library which (given_values values) (Some line))))) (sym n)
      (values_given s m l k (calling which line) more s (with_frames m more) l (turn.On (focus.Starts (thing.Library which (given_values values) (Some line)))) is values
      (λ world. record { state = (popped s m (calling which line) more is state).0; world = refl; of = of; later = later-itself s; still = tt; makes = λ told i. refl }))

  -- its step is taken, and it is entered
  pub library_called : (l1 : Left) (t : StoreView) (m' : State) (l' : Left) (k' : ℕ) (r : Turn) → 1 ≤ l.steps → l1 ≡ record l { steps = l.steps - 1 }
      → LateCounts s (with_frames m fs) l1 k t m' l' k' (enters_library (world_seen m.codes.world) which (values_seen s.texts (given_values values)) (Some line) (frames_of s (with_frames m fs)) (slots_of s (with_frames m fs))) r
      → GoesTo s m (focus.Gives values) l k t m' l' k' r
  library_called l1 t m' l' k' r some rest e =
      two_go s m (focus.Gives values) l k (with_frames m fs) (focus.Starts (thing.Library which (given_values values) (Some line))) t m' l' k' r state of (moves_on m.frames (calling which line) more values is) begins_library refl
      (late_step_paid s (with_frames m fs) l l1 k t m' l' k' _ r some rest e)

  -- no step is left
  pub library_spent : (l1 : Left) → l.steps < 1 → l1 ≡ record l { steps = 0 } → GoesTo s m (focus.Gives values) l k s (with_frames m fs) l1 k (turn.Spent Steps)
  library_spent l1 short rest =
      two_go s m (focus.Gives values) l k (with_frames m fs) (focus.Starts (thing.Library which (given_values values) (Some line))) s (with_frames m fs) l1 k (turn.Spent Steps) state of (moves_on m.frames (calling which line) more values is) begins_library refl
      (counts_late s s (with_frames m fs) (with_frames m fs) l l1 k k _ (turn.Spent Steps)
      (step_spent s (with_frames m fs) l l1 k (enters_library (world_seen m.codes.world) which (values_seen s.texts (given_values values)) (Some line) (frames_of s (with_frames m fs)) (slots_of s (with_frames m fs)))
      (called_of s m which line more fs is n state) short rest))
