pub use Rattle.lua_basic.proofs.LuaStoreLater as LuaStoreLater
pub use Rattle.lua_stack.proofs.Openings as LuaStackOpenings
pub use Rattle.lua_stack.proofs.Raises as LuaStackRaises
pub use Rattle.lua_stack.proofs.Stay as LuaStackStay
pub mod Codes
pub mod Counts
pub mod Choices
