-- The value at a place of the running function.
use Rattle.std.proofs.Common.{◌≡◌, refl}
use Rattle.lua_code.specs.LuaSlotsCode.{Place, Reg, Box, Up}
use Rattle.lua_state.specs.LuaSlotsSlots.{Slots, function_of, read_place}
use Rattle.lua_state.specs.LuaStackPlaces.{value_at}

pub reads : (s : Slots) (p : Place) → value_at s.heap s.regs (function_of s).cells p ≡ read_place s p
reads s (Reg i) = refl
reads s (Box i) = refl
reads s (Up i) = refl
