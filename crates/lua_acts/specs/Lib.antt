pub use Rattle.lua_code.specs.LuaSlotsCallBacks as LuaSlotsCallBacks
pub use Rattle.lua_libs.specs.Table as LuaLibsTable
pub mod Stops
