pub mod Plain
pub mod Parts
pub mod Reading
pub mod Listing
pub mod Nodes
pub mod Computed
pub mod Statements
