pub use Rattle.lua_blocks.proofs.LuaStateStaying as LuaStateStaying
pub mod Loops
pub mod Moves
pub mod Events
pub mod Called
