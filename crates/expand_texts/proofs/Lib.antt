pub use Rattle.expand_meaning.proofs.ReadLaws as ExpandMeaningReadLaws
pub use Rattle.expand_meaning.proofs.TreeLaws as ExpandMeaningTreeLaws
pub mod EqualityLaws
pub mod KindLaws
pub mod ArgumentLaws
pub mod RopeLaws
