-- WHAT A MACHINE HOLDS STAYS in each later store, and is seen there as it was, but for the heap.
use Rattle.std.specs.Prelude.{◌≡◌}
use Rattle.mw_frames.specs.LuaStoreSeen.{StoreView}
use Rattle.mw_frames.specs.LuaStoreParts.{IsLater}
use Rattle.lua_goes.specs.LuaSlotsSlots.{with_heap}
use Rattle.lua_state.specs.declared.state.State.{State}
use Rattle.lua_state.specs.Seen.{slots_of, frames_of}
use Rattle.lua_state.specs.Of.{StateOf}

abbrev pub StateStays : Type 0
StateStays = (s t : StoreView) (m : State) → IsLater s t → StateOf s m
    → StateOf t m × (frames_of t m ≡ frames_of s m) × (slots_of t m ≡ with_heap t.heap (slots_of s m))
