pub use Rattle.lua_state.proofs.Making as LuaStateMaking
pub use Rattle.lua_state.proofs.Staying as LuaStateStaying
pub mod Parts
pub mod Changes
pub mod Pairs
pub mod Blocks
pub mod Worlds
