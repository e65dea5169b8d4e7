-- STRIDES IN A ROW in code, with calls of the library among them.
use Rattle.std.specs.Prelude.{◌≡◌, ◌≤◌, ◌+◌, ℕ, Option, Some, None}
use Rattle.lua_turns.specs.WkBaseDeclaredLeftLeft.{Left}
use Rattle.lua_turns.specs.PageRunState.{Tally}
use Rattle.lua_code.specs.PageRunDeclaredWhichWhich.{Which}
use Rattle.lua_turns.specs.LuaStoreSeen.{StoreView}
use Rattle.lua_turns.specs.LuaStoreParts.{IsLater}
use Rattle.lua_turns.specs.LuaSlotsPoints.{Point}
use Rattle.lua_turns.specs.LuaSlotsEnact.{all_given_back}
use Rattle.lua_turns.specs.LuaGoesGoing.{Lacks, Comes}
use Rattle.lua_turns.specs.LuaStateDeclaredStateState.{State}
use Rattle.lua_calls.specs.LuaStateDeclaredTurnTurn.{Turn}
use Rattle.lua_turns.specs.LuaStateDeclaredTurnTurnTheVariants as turn
use Rattle.lua_turns.specs.LuaStateSeen.{slots_of, funds_of}
use Rattle.lua_turns.specs.LuaStateOf.{StateOf}
use Rattle.lua_turns.specs.LuaStateWorlds.{world_seen}
use Rattle.lua_turns.specs.LuaStridesNext.{focus_of}
use Rattle.lua_turns.specs.LuaStridesStrides.{Strides, Idles}
use Rattle.lua_turns.specs.Rows.{Follows}
use Rattle.lua_rows.specs.declared.rows.Went.{Went}
use Rattle.lua_rows.specs.declared.rows.Went.TheVariants as went

-- From a point, with what is held, what is left and the counter of turns, to those after some moves, in the last of which an allowance is spent.
pub record Spends (s : StoreView) (m : State) (p : Point) (l : Left) (k : ℕ) (t : StoreView) (m' : State) (l' : Left) (k' : ℕ) (w : Which) : Type 0 where
  pub state : StateOf t m'
  pub world : m'.codes.world ≡ m.codes.world
  pub later : IsLater s t
  pub rises : k ≤ k'
  pub led : (told : Tally) (n n' : ℕ) → k' + n ≡ k + n' → Comes (world_seen m.codes.world) p (slots_of s m) (funds_of l m told n) (Lacks w t.heap (all_given_back (funds_of l' m' told n')))

-- to a turn of the machine: moves of which one takes a step, or such an end
abbrev pub TurnsTo : StoreView → State → Point → Left → ℕ → StoreView → State → Left → ℕ → Turn → Type 0
TurnsTo s m p l k t m' l' k' (turn.On y) = Strides s m p l k t m' l' k' y
TurnsTo s m p l k t m' l' k' (turn.Spent w) = Spends s m p l k t m' l' k' w

-- where a call in place goes, and the first of several strides, if they are made
abbrev pub StridesTo : StoreView → State → Point → Left → ℕ → StoreView → State → Left → ℕ → Went → Type 0
StridesTo s m p l k t m' l' k' (went.On y) = Strides s m p l k t m' l' k' (focus_of y)
StridesTo s m p l k t m' l' k' (went.Turned r) = TurnsTo s m p l k t m' l' k' r.value

abbrev pub MayStrideTo : StoreView → State → Point → Left → ℕ → StoreView → State → Left → ℕ → Option Went → Type 0
MayStrideTo s m p l k t m' l' k' (Some w) = StridesTo s m p l k t m' l' k' w
MayStrideTo s m p l k t m' l' k' None = Idles s m l k t m' l' k'

-- the same of moves that may take no step
abbrev pub FollowsTo : StoreView → State → Point → Left → ℕ → StoreView → State → Left → ℕ → Went → Type 0
FollowsTo s m p l k t m' l' k' (went.On y) = Follows s m p l k t m' l' k' (focus_of y)
FollowsTo s m p l k t m' l' k' (went.Turned r) = TurnsTo s m p l k t m' l' k' r.value

-- the turn that the machine has then
abbrev pub IsTurn : Went → Turn → Type 0
IsTurn (went.On y) r = r ≡ turn.On (focus_of y)
IsTurn (went.Turned x) r = r ≡ x.value

abbrev pub IsTurned : Option Went → Turn → Type 0
IsTurned (Some (went.Turned x)) r = x.value ≡ r
IsTurned w r = ⊥
