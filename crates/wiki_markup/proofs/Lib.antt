pub use Rattle.wk_base.proofs.TitleLaws as WkBaseTitleLaws
pub mod Sweep
pub mod Passes
pub mod PassSteps
pub mod Closing
pub mod Letters
pub mod RoleLaws
pub mod Counts
pub mod Shapes
pub mod BuildLaws
pub mod RoleSteps
pub mod LetterLaws
pub mod PlaceLaws
pub mod ScanLaws
pub mod ShownBounds
pub mod Examples
pub mod HeldLaws
pub mod ShownSame
