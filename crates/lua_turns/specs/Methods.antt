-- WHERE A METHOD IS FOUND: in what is indexed itself, or, behind one link, in the table that its metatable names.
use Rattle.std.specs.Prelude.{◌≡◌, ◌≤◌, ◌-◌, Bool, true, false, List, [], ◌∷◌}
use Rattle.lua_loops.specs.WkBaseDeclaredLeftLeft.{Left}
use Rattle.lua_code.specs.LuaHeapValue.{Value}
use Rattle.lua_code.specs.LuaSlotsCode.{CWorld}
use Rattle.lua_operators.specs.LuaSlotsErrors.{gives}
use Rattle.lua_loops.specs.LuaSlotsMoves.{begins}
use Rattle.lua_operators.specs.LuaSlotsPoints.{SThing, SFrame, Move, Starts, Now}
use Rattle.lua_operators.specs.LuaSlotsSlots.{Slots}

-- a move that gives this value, at once or behind a link
abbrev pub GivesBehind : Bool → Move → Value → List SFrame → Slots → Type 0
GivesBehind false mv v fs s = mv ≡ gives (v ∷ []) fs s
GivesBehind true mv v fs s = (t : SThing) × (mv ≡ Now (Starts t fs) s) × ((world : CWorld) → begins world t fs s ≡ gives (v ∷ []) fs s)

-- a link takes a step; where none is left nothing changes
abbrev pub PaysLink : Bool → Left → Left → Bool → Type 0
PaysLink false l l' true = l' ≡ l
PaysLink true l l' true = (1 ≤ l.steps) × (l' ≡ record l { steps = l.steps - 1 })
PaysLink linked l l' false = l' ≡ l
