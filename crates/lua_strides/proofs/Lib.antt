pub use Rattle.lua_in_place.proofs.Listing as LuaInPlaceListing
pub use Rattle.lua_in_place.proofs.Nodes as LuaInPlaceNodes
pub use Rattle.lua_in_place.proofs.Plain as LuaInPlacePlain
pub use Rattle.lua_in_place.proofs.Reading as LuaInPlaceReading
pub use Rattle.lua_in_place.proofs.Statements as LuaInPlaceStatements
pub mod Codes
pub mod Places
pub mod Readings
pub mod Paths
pub mod Written
pub mod Branching
