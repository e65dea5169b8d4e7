pub use Rattle.lua_strings.proofs.Lines as LuaStringsLines
pub mod Given
pub mod Changed
pub mod Texts
pub mod Settled
pub mod Climbs
pub mod Valued
pub mod Tables
pub mod Lines
