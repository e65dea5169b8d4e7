pub use Rattle.page_ground.proofs.KeepLaws as PageGroundKeepLaws
pub use Rattle.page_ground.proofs.LuaStoreLists as LuaStoreLists
pub use Rattle.page_ground.proofs.Numbering as PageGroundNumbering
pub use Rattle.page_ground.proofs.PagePointsApart as PagePointsApart
pub use Rattle.page_ground.proofs.PagePointsExpansions as PagePointsExpansions
pub use Rattle.page_ground.proofs.PagePointsLoads as PagePointsLoads
pub use Rattle.page_ground.proofs.PagePointsMoves as PagePointsMoves
pub mod Answering
pub mod Beginnings
pub mod DataPut
pub mod Expanding
pub mod Halting
pub mod Starts
pub mod Waiting
pub mod Passing
pub mod Spending
pub mod Renumbered
