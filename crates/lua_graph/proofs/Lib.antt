pub use Rattle.lua_store.proofs.Later as LuaStoreLater
pub use Rattle.lua_store.proofs.Lists as LuaStoreLists
pub use Rattle.lua_walk.proofs.WalkLaws as LuaWalkWalkLaws
pub mod Steps
pub mod Joining
pub mod Distinct
pub mod Wholes
pub mod Places
pub mod Grown
pub mod Checks
pub mod Made
pub mod Costs
pub mod Copies
