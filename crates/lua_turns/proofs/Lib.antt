pub use Rattle.lua_loops.proofs.Beginning as LuaLoopsBeginning
pub use Rattle.lua_loops.proofs.LuaStateMaking as LuaStateMaking
pub use Rattle.lua_loops.proofs.LuaStateStaying as LuaStateStaying
pub use Rattle.lua_operators.proofs.LuaStackRaises as LuaStackRaises
pub use Rattle.lua_operators.proofs.LuaStackStay as LuaStackStay
pub use Rattle.lua_operators.proofs.LuaStoreLater as LuaStoreLater
pub use Rattle.lua_strides.proofs.LuaInPlaceListing as LuaInPlaceListing
pub use Rattle.lua_strides.proofs.LuaInPlacePlain as LuaInPlacePlain
pub use Rattle.lua_strides.proofs.LuaInPlaceReading as LuaInPlaceReading
pub use Rattle.lua_strides.proofs.LuaInPlaceStatements as LuaInPlaceStatements
pub use Rattle.lua_strides.proofs.Paths as LuaStridesPaths
pub use Rattle.lua_strides.proofs.Readings as LuaStridesReadings
pub mod Following
pub mod Freely
pub mod Turning
pub mod EntrySet
pub mod Entered
pub mod Codes
pub mod Begun
pub mod EntryBegun
pub mod Chosen
pub mod Listed
pub mod Named
pub mod Joins
pub mod ReadFirst
