-- THAT CODE MAKES A MOVE of `lua_slots`: from a store, a state and what is left to those after it, with what comes next.
use Rattle.std.specs.Prelude.{◌≡◌, ◌≤◌, ◌+◌, ◌⊎◌, ℕ}
use Rattle.mw_frames.specs.WkBaseDeclaredLeftLeft.{Left}
use Rattle.lua_arms.specs.PageRunState.{Tally}
use Rattle.mw_frames.specs.LuaStoreSeen.{StoreView}
use Rattle.mw_frames.specs.LuaStoreParts.{IsLater}
use Rattle.lua_goes.specs.LuaSlotsPoints.{Move}
use Rattle.lua_code.specs.LuaSlotsEnact.{enact}
use Rattle.lua_goes.specs.Going.{led}
use Rattle.lua_state.specs.declared.state.State.{State}
use Rattle.lua_state.specs.declared.turn.Turn.{Turn}
use Rattle.lua_state.specs.declared.turn.Turn.TheVariants as turn
use Rattle.lua_state.specs.Seen.{funds_of, turn_seen}
use Rattle.lua_state.specs.Of.{StateOf, TurnOf}

-- only where an allowance is spent
abbrev pub IfSpent : Turn → Type 0 → Type 0
IfSpent (turn.Spent which) A = A
IfSpent (turn.On focus) A = Unit {0}

-- A MOVE THAT COUNTS NOTHING, whatever was counted and told before. Where an allowance is spent the objects of the store are as they were.
pub record Makes (s : StoreView) (m : State) (l : Left) (t : StoreView) (m' : State) (l' : Left) (mv : Move) (r : Turn) : Type 0 where
  pub state : StateOf t m'
  pub world : m'.codes.world ≡ m.codes.world
  pub of : TurnOf t r
  pub later : IsLater s t
  pub still : IfSpent r (t.heap ≡ s.heap)
  pub makes : (told : Tally) (n : ℕ) → enact mv (funds_of l m told n) ≡ turn_seen t m' r (funds_of l' m' told n)

-- ONE THAT COUNTS nodes, turns of loops and functions entered: the counter of turns rises by exactly these
pub record Counts (s : StoreView) (m : State) (l : Left) (k : ℕ) (t : StoreView) (m' : State) (l' : Left) (k' : ℕ) (mv : Move) (r : Turn) : Type 0 where
  pub state : StateOf t m'
  pub world : m'.codes.world ≡ m.codes.world
  pub of : TurnOf t r
  pub later : IsLater s t
  pub still : IfSpent r (t.heap ≡ s.heap)
  pub rises : k ≤ k'
  pub makes : (told : Tally) (n n' : ℕ) → k' + n ≡ k + n' → enact mv (funds_of l m told n) ≡ turn_seen t m' r (funds_of l' m' told n')

-- WHERE CODE CHANGES THE STORE BEFORE ITS LAST CHARGE: where an allowance is spent the objects of the store are as they were, or those
-- to which the move would have led.
abbrev pub IsStill : StoreView → StoreView → Move → Type 0
IsStill s t mv = (t.heap ≡ s.heap) ⊎ (t.heap ≡ (led mv).heap)

pub record LateMakes (s : StoreView) (m : State) (l : Left) (t : StoreView) (m' : State) (l' : Left) (mv : Move) (r : Turn) : Type 0 where
  pub state : StateOf t m'
  pub world : m'.codes.world ≡ m.codes.world
  pub of : TurnOf t r
  pub later : IsLater s t
  pub still : IfSpent r (IsStill s t mv)
  pub makes : (told : Tally) (n : ℕ) → enact mv (funds_of l m told n) ≡ turn_seen t m' r (funds_of l' m' told n)

pub record LateCounts (s : StoreView) (m : State) (l : Left) (k : ℕ) (t : StoreView) (m' : State) (l' : Left) (k' : ℕ) (mv : Move) (r : Turn) : Type 0 where
  pub state : StateOf t m'
  pub world : m'.codes.world ≡ m.codes.world
  pub of : TurnOf t r
  pub later : IsLater s t
  pub still : IfSpent r (IsStill s t mv)
  pub rises : k ≤ k'
  pub makes : (told : Tally) (n n' : ℕ) → k' + n ≡ k + n' → enact mv (funds_of l m told n) ≡ turn_seen t m' r (funds_of l' m' told n')
