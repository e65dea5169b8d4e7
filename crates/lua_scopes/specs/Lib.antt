pub use Rattle.lua_code.specs.LuaHeapRelated as LuaHeapRelated
pub mod Scopes
pub mod Spots
