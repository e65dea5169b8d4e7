pub mod Offsets
pub mod Begun
pub mod Prices
pub mod Boundaries
