pub mod Steps
pub mod Kinds
