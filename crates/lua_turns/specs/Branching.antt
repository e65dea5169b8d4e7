-- A BLOCK OF ITS OWN, chosen by a test.
use Rattle.std.specs.Prelude.{◌≡◌, List, [], ◌∷◌}
use Rattle.lua_loops.specs.PageRunOutcome.{Goes}
use Rattle.lua_code.specs.LuaHeapValue.{Value}
use Rattle.lua_code.specs.LuaSlotsCode.{CBlock, CWorld}
use Rattle.lua_loops.specs.LuaSlotsMoves.{moves}
use Rattle.lua_operators.specs.LuaSlotsPoints.{SFrame, Gives}
use Rattle.lua_code.specs.LuaSlotsStatements.{within}
use Rattle.lua_strides.specs.LuaStackDeclaredFrameFrame.{Frame}
use Rattle.lua_operators.specs.LuaStackSeen.{frame_seen}
use Rattle.lua_strides.specs.LuaStateDeclaredStateState.{State}
use Rattle.lua_loops.specs.LuaStateSeen.{slots_of}
use Rattle.lua_operators.specs.LuaStoreSeen.{StoreView}

-- where this value reaches this frame, this block is next
abbrev pub LeadsWithin : StoreView → State → Frame → Value → CBlock → Type 0
LeadsWithin s m f v b = (world : CWorld) (gs : List SFrame) → moves world (Gives (Goes (v ∷ [])) (frame_seen s.texts f ∷ gs)) (slots_of s m) ≡ within b gs (slots_of s m)
