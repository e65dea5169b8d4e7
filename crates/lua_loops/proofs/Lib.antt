pub use Rattle.lua_state.proofs.Making as LuaStateMaking
pub use Rattle.lua_state.proofs.Staying as LuaStateStaying
pub mod Parts
pub mod Beginning
pub mod Left
pub mod Entering
pub mod Worlds
