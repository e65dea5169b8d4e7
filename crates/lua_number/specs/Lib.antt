pub use Rattle.wk_base.specs.Titles as WkBaseTitles
pub use Rattle.wk_base.specs.declared.left.Left as WkBaseDeclaredLeftLeft
pub mod Numerals
pub mod Whole
pub mod Words
