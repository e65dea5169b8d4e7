-- MOVES IN A ROW in code.
use Rattle.std.specs.Prelude.{◌≡◌, ◌≤◌, ◌+◌, ℕ, List, ◌∷◌, Option, Some, None}
use Rattle.lua_loops.specs.WkBaseDeclaredLeftLeft.{Left}
use Rattle.lua_operators.specs.PageRunState.{Tally}
use Rattle.lua_operators.specs.LuaStoreSeen.{StoreView}
use Rattle.lua_operators.specs.LuaStoreParts.{IsLater}
use Rattle.lua_operators.specs.LuaSlotsPoints.{Point}
use Rattle.lua_strides.specs.LuaGoesGoing.{Reaches}
use Rattle.lua_strides.specs.LuaStackDeclaredFocusFocus.{Focus}
use Rattle.lua_strides.specs.LuaStackDeclaredFrameFrame.{Frame}
use Rattle.lua_operators.specs.LuaStackSeen.{focus_seen}
use Rattle.lua_operators.specs.LuaStackOf.{FocusOf}
use Rattle.lua_strides.specs.LuaStateDeclaredStateState.{State}
use Rattle.lua_loops.specs.LuaStateSeen.{slots_of, frames_of, funds_of}
use Rattle.lua_loops.specs.LuaStateOf.{StateOf}
use Rattle.lua_loops.specs.LuaStateWorlds.{world_seen}
use Rattle.lua_strides.specs.declared.next.Next.{Next}
use Rattle.lua_strides.specs.Next.{focus_of}
use Rattle.lua_strides.specs.Strides.{Idles}

-- From a point, with what is held, what is left and the counter of turns, to those to which some moves lead. They may take no step.
pub record Follows (s : StoreView) (m : State) (p : Point) (l : Left) (k : ℕ) (t : StoreView) (m' : State) (l' : Left) (k' : ℕ) (y : Focus) : Type 0 where
  pub state : StateOf t m'
  pub world : m'.codes.world ≡ m.codes.world
  pub of : FocusOf t y
  pub later : IsLater s t
  pub rises : k ≤ k'
  pub sinks : l'.steps ≤ l.steps
  pub led : (told : Tally) (n n' : ℕ) → k' + n ≡ k + n' → Reaches (world_seen m.codes.world) p (slots_of s m) (funds_of l m told n) (focus_seen t y (frames_of t m')) (slots_of t m') (funds_of l' m' told n')

-- such moves, or nothing
abbrev pub MayFollow : StoreView → State → Point → Left → ℕ → StoreView → State → Left → ℕ → Option Next → Type 0
MayFollow s m p l k t m' l' k' (Some y) = Follows s m p l k t m' l' k' (focus_of y)
MayFollow s m p l k t m' l' k' None = Idles s m l k t m' l' k'

-- such moves, whatever the answer is
abbrev pub MustFollow : StoreView → State → Point → Left → ℕ → StoreView → State → Left → ℕ → Option Next → Type 0
MustFollow s m p l k t m' l' k' (Some y) = Follows s m p l k t m' l' k' (focus_of y)
MustFollow s m p l k t m' l' k' None = ⊥

-- this frame is the newest
abbrev pub IsNewest : List Frame → Frame → Type 0
IsNewest fs f = (more : List Frame) × (fs ≡ f ∷ more)
