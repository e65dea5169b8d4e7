pub use Rattle.lua_stack.specs.Of as LuaStackOf
pub use Rattle.lua_store.specs.Seen as LuaStoreSeen
pub mod Code
pub mod Standing
pub mod Stops
pub mod Lands
pub mod Preparing
