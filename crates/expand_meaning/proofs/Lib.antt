pub mod TreeLaws
pub mod ReadLaws
pub mod Rows
