pub use Rattle.expand_texts.specs.ExpandMeaningPlaces as ExpandMeaningPlaces
pub use Rattle.mw_frame.specs.WkBaseDeclaredTitleTitle as WkBaseDeclaredTitleTitle
pub use Rattle.page_run.specs.WkBaseContractsTitleTitlePartialEqTheImpl as WkBaseContractsTitleTitlePartialEqTheImpl
pub mod Stretches
pub mod Forests
pub mod CaseTables
pub mod Constants
pub mod Entries
pub mod Pages
pub mod Furthers
