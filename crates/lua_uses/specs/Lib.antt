pub mod Uses
pub mod Modules
pub mod Examples
