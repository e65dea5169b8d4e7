pub mod Closures
pub mod Loads
