pub use Rattle.lua_turns.proofs.Following as LuaTurnsFollowing
pub use Rattle.lua_turns.proofs.Freely as LuaTurnsFreely
pub use Rattle.lua_turns.proofs.LuaInPlaceReading as LuaInPlaceReading
pub mod Turning
pub mod Arguments
pub mod Methods
pub mod Begun
pub mod Calling
pub mod Leading
pub mod Ended
