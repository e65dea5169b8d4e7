pub use Rattle.expand_meaning.specs.Expand as ExpandMeaningExpand
pub use Rattle.expand_meaning.specs.Kind as ExpandMeaningKind
pub use Rattle.expand_meaning.specs.Outcome as ExpandMeaningOutcome
pub use Rattle.expand_meaning.specs.Places as ExpandMeaningPlaces
pub use Rattle.expand_meaning.specs.Texts as ExpandMeaningTexts
pub mod Kinds
pub mod Entries
pub mod Ropes
