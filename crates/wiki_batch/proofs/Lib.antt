pub use Rattle.wiki_texts.proofs.MeaningLaws as WikiTextsMeaningLaws
pub mod Crossing
pub mod Joins
pub mod Meanings
pub mod Shares
