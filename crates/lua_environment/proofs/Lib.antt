pub use Rattle.lua_stack.proofs.Raises as LuaStackRaises
pub use Rattle.lua_stack.proofs.Stay as LuaStackStay
pub mod Stays
