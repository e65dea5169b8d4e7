use Rattle.lua_code.specs.LuaSlotsCode.{CWorld}
use Rattle.mw_frames.specs.LuaStoreSeen.{StoreView}
use Rattle.lua_state.specs.Worlds.{AreHeld}
use Rattle.lua_state.proofs.held.make_room.Given as goal

abbrev pub invariant-places : goal.invariant-places
invariant-places l = (w : CWorld) (s : StoreView) → AreHeld w s l.fn.held.items → AreHeld w s l.held.items
