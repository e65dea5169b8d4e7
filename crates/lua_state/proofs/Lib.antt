pub use Rattle.lua_arms.proofs.LuaStackOpenings as LuaStackOpenings
pub use Rattle.lua_arms.proofs.LuaStackRaises as LuaStackRaises
pub use Rattle.lua_arms.proofs.LuaStackStay as LuaStackStay
pub use Rattle.lua_titled.proofs.Natural as LuaTitledNatural
pub use Rattle.mw_frames.proofs.LuaGraphJoining as LuaGraphJoining
pub use Rattle.mw_frames.proofs.LuaGraphPlaces as LuaGraphPlaces
pub use Rattle.mw_frames.proofs.LuaStoreLater as LuaStoreLater
pub use Rattle.mw_frames.proofs.LuaStoreLists as LuaStoreLists
pub mod Staying
pub mod Making
pub mod Raised
pub mod FoundCode
pub mod Newest
pub mod Looking
pub mod Holding
