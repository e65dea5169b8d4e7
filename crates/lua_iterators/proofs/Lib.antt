pub use Rattle.lua_strings.proofs.LuaBasicFound as LuaBasicFound
pub use Rattle.mw_ustrings.proofs.Costs as MwUstringsCosts
pub use Rattle.mw_ustrings.proofs.MwFrameTextsCharged as MwFrameTextsCharged
pub use Rattle.mw_ustrings.proofs.MwFramesSums as MwFramesSums
pub mod Changed
pub mod Walks
pub mod Parted
pub mod Made
pub mod Rows
pub mod Lines
