pub use Rattle.mw_ustrings.proofs.Lines as MwUstringsLines
pub mod Lines
pub mod SetAnswers
pub mod SplitAnswers
pub mod TextTables
pub mod NewTables
pub mod PaidParts
pub mod ItemLists
pub mod Lengths
mod Examples
