pub use Rattle.lua_stack.proofs.Stay as LuaStackStay
mod CellLaws
mod Codes
mod FunctionLaws
mod IdleLaws
mod RegisterLaws
