pub use Rattle.expand_texts.specs.ExpandMeaningExpand as ExpandMeaningExpand
pub use Rattle.expand_texts.specs.ExpandMeaningOutcome as ExpandMeaningOutcome
pub use Rattle.wiki_markup.specs.Trees as WikiMarkupTrees
pub use Rattle.wiki_markup.specs.declared.marked.Marked as WikiMarkupDeclaredMarkedMarked
pub use Rattle.wiki_pages.specs.Entries as WikiPagesEntries
pub use Rattle.wiki_pages.specs.ExpandMeaningPlaces as ExpandMeaningPlaces
pub use Rattle.wiki_pages.specs.Pages as WikiPagesPages
pub mod Points
pub mod Skips
pub mod Weights
pub mod Asked
pub mod Steps
pub mod Standing
