-- SEVERAL MOVES AT ONCE in code.
use Rattle.std.specs.Prelude.{◌≡◌, ◌≤◌, ◌<◌, ◌+◌, ◌-◌, ℕ, Bool, true, false, List, Option, Some, None}
use Rattle.lua_state.specs.WkBaseDeclaredLeftLeft.{Left}
use Rattle.lua_state.specs.PageRunState.{Tally}
use Rattle.lua_state.specs.LuaStoreSeen.{StoreView}
use Rattle.lua_state.specs.LuaStoreParts.{IsLater}
use Rattle.lua_code.specs.LuaSlotsCode.{CWorld}
use Rattle.lua_state.specs.LuaSlotsSlots.{Slots}
use Rattle.lua_state.specs.LuaSlotsPoints.{Point}
use Rattle.lua_state.specs.LuaSlotsEnact.{Funds}
use Rattle.lua_state.specs.LuaGoesGoing.{Reaches}
use Rattle.lua_in_place.specs.Laws.{after_nodes}
use Rattle.lua_state.specs.LuaStackDeclaredFocusFocus.{Focus}
use Rattle.lua_state.specs.LuaStackDeclaredFrameFrame.{Frame}
use Rattle.lua_state.specs.LuaStackSeen.{focus_seen, frames_seen}
use Rattle.lua_state.specs.LuaStackOf.{FocusOf, FramesOf}
use Rattle.lua_state.specs.declared.state.State.{State}
use Rattle.lua_state.specs.Seen.{slots_of, frames_of, funds_of}
use Rattle.lua_state.specs.Of.{StateOf}
use Rattle.lua_state.specs.Worlds.{world_seen}
use Rattle.lua_strides.specs.declared.next.Next.{Next}
use Rattle.lua_strides.specs.Next.{focus_of}

-- so many nodes are paid and counted; or fewer steps are left, and nothing changes
abbrev pub PaysNodes : ℕ → Left → ℕ → Left → ℕ → Bool → Type 0
PaysNodes n l k l' k' true = (n ≤ l.steps) × (l' ≡ record l { steps = l.steps - n }) × (k' ≡ k + n)
PaysNodes n l k l' k' false = (l' ≡ l) × (k' ≡ k)

-- From a point, with what is held, what is left and the counter of turns, to those to which some moves lead, of which one takes a step.
pub record Strides (s : StoreView) (m : State) (p : Point) (l : Left) (k : ℕ) (t : StoreView) (m' : State) (l' : Left) (k' : ℕ) (y : Focus) : Type 0 where
  pub state : StateOf t m'
  pub world : m'.codes.world ≡ m.codes.world
  pub of : FocusOf t y
  pub later : IsLater s t
  pub rises : k ≤ k'
  pub falls : l'.steps < l.steps
  pub led : (told : Tally) (n n' : ℕ) → k' + n ≡ k + n' → Reaches (world_seen m.codes.world) p (slots_of s m) (funds_of l m told n) (focus_seen t y (frames_of t m')) (slots_of t m') (funds_of l' m' told n')

-- Nothing changed.
pub record Idles (s : StoreView) (m : State) (l : Left) (k : ℕ) (t : StoreView) (m' : State) (l' : Left) (k' : ℕ) : Type 0 where
  pub store : t ≡ s
  pub state : m' ≡ m
  pub left : l' ≡ l
  pub counter : k' ≡ k

-- the one or the other
abbrev pub MayStride : StoreView → State → Point → Left → ℕ → StoreView → State → Left → ℕ → Option Next → Type 0
MayStride s m p l k t m' l' k' (Some y) = Strides s m p l k t m' l' k' (focus_of y)
MayStride s m p l k t m' l' k' None = Idles s m l k t m' l' k'

-- moves that lead from a point to another one, at so many nodes
abbrev pub LeadsAt : CWorld → Point → Slots → ℕ → Point → Slots → Type 0
LeadsAt world p s n q t = (f : Funds) → n ≤ f.left.steps → Reaches world p s f q t (after_nodes n f)

-- All but the charge is known: so many nodes lead from a point to what is next, above these frames, and what is held stays.
pub record Ready (s : StoreView) (m : State) (p : Point) (nodes : ℕ) (y : Focus) (fs : List Frame) : Type 0 where
  pub state : StateOf s m
  pub of : FocusOf s y
  pub frames : FramesOf s fs
  pub some : 1 ≤ nodes
  pub leads : LeadsAt (world_seen m.codes.world) p (slots_of s m) nodes (focus_seen s y (frames_seen s.texts fs)) (slots_of s m)
