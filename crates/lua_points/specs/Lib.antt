pub use Rattle.lua_agree.specs.Functions as LuaAgreeFunctions
pub use Rattle.lua_agree.specs.LuaMeaningScope as LuaMeaningScope
pub use Rattle.lua_agree.specs.LuaMeaningStart as LuaMeaningStart
pub use Rattle.lua_agree.specs.LuaSlotsIsCode as LuaSlotsIsCode
pub use Rattle.lua_agree.specs.Met as LuaAgreeMet
pub use Rattle.lua_agree.specs.Values as LuaAgreeValues
pub use Rattle.lua_goes.specs.Going as LuaGoesGoing
pub use Rattle.lua_goes.specs.Laws as LuaGoesLaws
pub use Rattle.lua_goes.specs.LuaSlotsCode as LuaSlotsCode
pub use Rattle.lua_goes.specs.LuaSlotsEnact as LuaSlotsEnact
pub use Rattle.lua_goes.specs.LuaSlotsPoints as LuaSlotsPoints
pub use Rattle.lua_goes.specs.LuaSlotsSlots as LuaSlotsSlots
pub use Rattle.lua_goes.specs.Weight as LuaGoesWeight
pub use Rattle.lua_heap.specs.Proc as LuaHeapProc
pub mod At
pub mod Told
pub mod Laws
pub mod Clauses
pub mod Families
