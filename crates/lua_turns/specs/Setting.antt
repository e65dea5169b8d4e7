-- AN ENTRY THAT IS SET where no handler is asked.
use Rattle.std.specs.Prelude.{◌≡◌, ◌≤◌, ℕ, Bool, true, false, List, []}
use Rattle.lua_loops.specs.WkBaseDeclaredLeftLeft.{Left}
use Rattle.lua_loops.specs.PageRunOutcome.{Goes}
use Rattle.lua_operators.specs.PageRunState.{Tally}
use Rattle.lua_code.specs.LuaHeapValue.{Value}
use Rattle.lua_operators.specs.LuaStoreSeen.{StoreView}
use Rattle.lua_operators.specs.LuaStoreParts.{IsLater}
use Rattle.lua_operators.specs.LuaSlotsEnact.{Stands, enact}
use Rattle.lua_code.specs.LuaSlotsIndex.{put_entry}
use Rattle.lua_operators.specs.LuaSlotsPoints.{SFrame, Gives}
use Rattle.lua_operators.specs.LuaSlotsSlots.{Slots, with_heap}
use Rattle.lua_strides.specs.LuaStateDeclaredStateState.{State}
use Rattle.lua_loops.specs.LuaStateSeen.{funds_of}

pub record PutsEntry (s : StoreView) (t : ℕ) (key v : Value) (l : Left) (u : StoreView) (l' : Left) : Type 0 where
  pub later : IsLater s u
  pub sinks : l'.steps ≤ l.steps
  pub put : (m : State) (told : Tally) (i : ℕ) (fs : List SFrame) (x : Slots) → x.heap ≡ s.heap → enact (put_entry t key v fs x) (funds_of l m told i) ≡ Stands (Gives (Goes []) fs) (with_heap u.heap x) (funds_of l' m told i)

-- it is set and paid for; or nothing changes
abbrev pub Puts : StoreView → ℕ → Value → Value → Left → StoreView → Left → Bool → Type 0
Puts s t key v l u l' true = PutsEntry s t key v l u l'
Puts s t key v l u l' false = (u ≡ s) × (l' ≡ l)
