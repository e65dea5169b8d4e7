pub use Rattle.page_meaning.specs.Page as PageMeaningPage
pub mod Driven
pub mod Moving
pub mod Ground
pub mod Page
pub mod Job
