-- WHERE A MACHINE'S MOVES HAVE LED, in code.
use Rattle.std.specs.Prelude.{◌≡◌, ◌≤◌, ◌<◌, ◌+◌, ℕ, []}
use Rattle.page_run.specs.WkBaseDeclaredLeftLeft.{Left}
use Rattle.page_run.specs.State.{Tally}
use Rattle.lua_store.specs.Seen.{StoreView}
use Rattle.lua_store.specs.Parts.{IsLater}
use Rattle.lua_code.specs.LuaSlotsCode.{CWorld}
use Rattle.lua_blocks.specs.LuaSlotsSlots.{Slots}
use Rattle.lua_blocks.specs.LuaSlotsPoints.{Point, Gives, Asking}
use Rattle.lua_rows.specs.LuaSlotsEnact.{Funds, all_given_back}
use Rattle.lua_home_laws.specs.LuaGoesWeight.{weight}
use Rattle.lua_rows.specs.LuaGoesGoing.{Lacks, Reaches, Comes}
use Rattle.lua_environment.specs.LuaStackDeclaredFocusFocus.{Focus}
use Rattle.lua_environment.specs.LuaStackDeclaredFocusFocusTheVariants as focus
use Rattle.lua_evals.specs.LuaStackDeclaredValuesGiven.{Given}
use Rattle.lua_environment.specs.LuaStackOf.{FocusOf}
use Rattle.lua_rows.specs.LuaStateDeclaredStateState.{State}
use Rattle.lua_rows.specs.LuaStateDeclaredTurnTurn.{Turn}
use Rattle.lua_rows.specs.LuaStateDeclaredTurnTurnTheVariants as turn
use Rattle.lua_blocks.specs.LuaStateSeen.{slots_of, frames_of, funds_of, outcome_seen}
use Rattle.lua_blocks.specs.LuaStateOf.{StateOf}
use Rattle.lua_runs.specs.LuaStateWorlds.{world_seen}
use Rattle.lua_machine.specs.declared.event.Event.{Event}
use Rattle.lua_machine.specs.declared.event.Event.TheVariants as event
use Rattle.lua_machine.specs.Moved.{point_of}
use Rattle.lua_machine.specs.Events.{EventOf}

-- from a store, a state, what is next, what is left and the counter to those after some moves, with what is next then
pub record LeadsTo (s : StoreView) (m : State) (f : Focus) (l : Left) (k : ℕ) (t : StoreView) (m' : State) (l' : Left) (k' : ℕ) (y : Focus) : Type 0 where
  pub state : StateOf t m'
  pub world : m'.codes.world ≡ m.codes.world
  pub of : FocusOf t y
  pub later : IsLater s t
  pub rises : k ≤ k'
  pub led : (told : Tally) (n n' : ℕ) → k' + n ≡ k + n' → Reaches (world_seen m.codes.world) (point_of s m f) (slots_of s m) (funds_of l m told n) (point_of t m' y) (slots_of t m') (funds_of l' m' told n')

-- the event to which moves have led, from a point with what is held and left
abbrev pub Led : CWorld → Point → Slots → Funds → StoreView → State → Event → Funds → Type 0
Led world p s f t m (event.Over o) g = Reaches world p s f (Gives (outcome_seen t.texts o) []) (slots_of t m) g
Led world p s f t m (event.Spent w) g = Comes world p s f (Lacks w t.heap (all_given_back g))
Led world p s f t m (event.Asks q) g = Reaches world p s f (Asking q (frames_of t m)) (slots_of t m) g

-- the same to those at an event
pub record EndsIn (s : StoreView) (m : State) (f : Focus) (l : Left) (k : ℕ) (t : StoreView) (m' : State) (l' : Left) (k' : ℕ) (e : Event) : Type 0 where
  pub state : StateOf t m'
  pub world : m'.codes.world ≡ m.codes.world
  pub of : EventOf t e
  pub later : IsLater s t
  pub rises : k ≤ k'
  pub led : (told : Tally) (n n' : ℕ) → k' + n ≡ k + n' → Led (world_seen m.codes.world) (point_of s m f) (slots_of s m) (funds_of l m told n) t m' e (funds_of l' m' told n')

-- one move or more from there: steps never rise, and where they stay the weight falls; or an allowance is spent
abbrev pub GoesTo : StoreView → State → Focus → Left → ℕ → StoreView → State → Left → ℕ → Turn → Type 0
GoesTo s m x l k t m' l' k' (turn.On y) = LeadsTo s m x l k t m' l' k' y × (l'.steps ≤ l.steps) × (l'.steps ≡ l.steps → weight (point_of t m' y) < weight (point_of s m x))
GoesTo s m x l k t m' l' k' (turn.Spent w) = EndsIn s m x l k t m' l' k' (event.Spent w)

-- values for the newest frame are next
abbrev pub GivesOn : Turn → Type 0
GivesOn r = (values : Given) × (r ≡ turn.On (focus.Gives values))

-- what is next behind a move is of what is held
abbrev pub IsOn : StoreView → State → Turn → Type 0
IsOn t m (turn.On y) = StateOf t m × FocusOf t y
IsOn t m (turn.Spent w) = Unit {0}
