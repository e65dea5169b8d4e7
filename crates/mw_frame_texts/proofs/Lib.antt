pub use Rattle.mw_frames.proofs.Kept as MwFramesKept
pub use Rattle.mw_frames.proofs.LuaBasicCounts as LuaBasicCounts
pub use Rattle.mw_frames.proofs.LuaBasicFound as LuaBasicFound
pub use Rattle.mw_frames.proofs.LuaBasicLists as LuaBasicLists
pub use Rattle.mw_frames.proofs.LuaGraphDistinct as LuaGraphDistinct
pub use Rattle.mw_frames.proofs.LuaGraphJoining as LuaGraphJoining
pub use Rattle.mw_frames.proofs.LuaStoreLater as LuaStoreLater
pub use Rattle.mw_frames.proofs.LuaStoreLists as LuaStoreLists
pub use Rattle.mw_frames.proofs.StayLaws as MwFramesStayLaws
pub use Rattle.mw_frames.proofs.Sums as MwFramesSums
pub use Rattle.mw_frames.proofs.Tables as MwFramesTables
pub mod Sums
pub mod Reading
pub mod Same
pub mod Charged
