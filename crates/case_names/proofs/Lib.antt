pub mod CaseLaws
pub mod Rows
