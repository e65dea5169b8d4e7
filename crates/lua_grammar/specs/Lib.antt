pub use Rattle.lua_number.specs.Numerals as LuaNumberNumerals
pub mod Tokens
pub mod Grammar
pub mod Facts
pub mod Heights
pub mod FactLaws
pub mod FaultLaws
pub mod Misfits
pub mod Examples
