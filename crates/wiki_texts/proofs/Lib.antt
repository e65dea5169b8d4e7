pub use Rattle.wiki_pages.proofs.Crossing as WikiPagesCrossing
pub mod PageLaws
pub mod ModuleLaws
pub mod MeaningLaws
pub mod PreparedLaws
pub mod EntryLaws
