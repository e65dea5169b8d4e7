pub use Rattle.lua_code.specs.LuaSlotsExpressions as LuaSlotsExpressions
pub use Rattle.lua_state.specs.LuaSlotsCalls as LuaSlotsCalls
pub use Rattle.lua_state.specs.LuaStackDeclaredValuesGiven as LuaStackDeclaredValuesGiven
