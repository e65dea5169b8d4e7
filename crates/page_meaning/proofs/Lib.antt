pub use Rattle.lua_meaning_laws.proofs.Runs as LuaMeaningLawsRuns
pub use Rattle.page_run.proofs.LoadLaws as PageRunLoadLaws
pub mod DriveLaws
pub mod Texts
pub mod OverLaws
pub mod PointsLaws
pub mod DataRuns
pub mod KeptLaws
pub mod PaidLaws
pub mod TaskLaws
pub mod OutcomeLaws
pub mod Rows
