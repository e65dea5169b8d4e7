pub use Rattle.lua_basic.proofs.Counts as LuaBasicCounts
pub use Rattle.lua_basic.proofs.Found as LuaBasicFound
pub use Rattle.lua_basic.proofs.Lists as LuaBasicLists
pub use Rattle.lua_basic.proofs.LuaStoreLater as LuaStoreLater
pub use Rattle.lua_basic.proofs.LuaStoreLists as LuaStoreLists
pub use Rattle.lua_home.proofs.LuaGraphDistinct as LuaGraphDistinct
pub use Rattle.lua_home.proofs.LuaGraphJoining as LuaGraphJoining
pub use Rattle.lua_home.proofs.LuaGraphPlaces as LuaGraphPlaces
pub mod Digits
pub mod Tables
pub mod StayLaws
pub mod Sums
pub mod ReadLemmas
pub mod Merged
pub mod Kept
