pub use Rattle.lua_meaning.proofs.MwHtmlRenumbered as MwHtmlRenumbered
pub use Rattle.lua_meaning.proofs.PageRunEnough as PageRunEnough
pub mod Values
pub mod Heaps
pub mod Basics
pub mod FrameTables
pub mod Tags
pub mod Methods
pub mod MwFunctions
pub mod StringsAgree
pub mod IteratorsAgree
pub mod TableAgree
pub mod UstringAgree
pub mod TextsAgree
pub mod GsubAgree
pub mod HtmlAgree
pub mod Agreements
pub mod Homes
pub mod Joins
pub mod LibraryLaws
