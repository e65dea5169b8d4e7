pub use Rattle.wk_tool.specs.WkShelfDeclaredFolderFolderPage as WkShelfDeclaredFolderFolderPage
pub mod Told
pub mod Linting
pub mod Trees
