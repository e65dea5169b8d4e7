pub use Rattle.mw_frame_texts.proofs.Charged as MwFrameTextsCharged
pub use Rattle.mw_frame_texts.proofs.LuaBasicCounts as LuaBasicCounts
pub use Rattle.mw_frame_texts.proofs.LuaBasicFound as LuaBasicFound
pub use Rattle.mw_frame_texts.proofs.LuaBasicLists as LuaBasicLists
pub use Rattle.mw_frame_texts.proofs.LuaGraphDistinct as LuaGraphDistinct
pub use Rattle.mw_frame_texts.proofs.LuaGraphJoining as LuaGraphJoining
pub use Rattle.mw_frame_texts.proofs.LuaStoreLater as LuaStoreLater
pub use Rattle.mw_frame_texts.proofs.MwFramesSums as MwFramesSums
pub mod Lines
pub mod ReadArguments
pub mod Values
pub mod Utf8
pub mod Costs
pub mod Iterated
pub mod Normalized
pub mod Searches
pub mod Points
mod Examples
