pub use Rattle.lua_reading.proofs.LuaLexerLists as LuaLexerLists
pub mod Rests
pub mod Chains
pub mod Expressions
pub mod Fields
pub mod Bodies
pub mod Statements
pub mod Blocks
pub mod Once
