pub use Rattle.lua_state.proofs.LuaStackOpenings as LuaStackOpenings
pub use Rattle.lua_state.proofs.LuaStackRaises as LuaStackRaises
pub use Rattle.lua_state.proofs.LuaStackStay as LuaStackStay
pub use Rattle.lua_state.proofs.Making as LuaStateMaking
pub use Rattle.lua_state.proofs.Staying as LuaStateStaying
pub mod Held
pub mod Parts
pub mod Kept
pub mod Guarded
pub mod GivenModules
