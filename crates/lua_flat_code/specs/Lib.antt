pub mod Seen
pub mod Making
pub mod Parts
pub mod Targets
pub mod Whole
