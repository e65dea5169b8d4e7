pub use Rattle.lua_strings.proofs.LuaBasicMarkup as LuaBasicMarkup
pub mod Pieces
pub mod Covered
