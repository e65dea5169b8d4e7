pub mod Levels
pub mod Chains
pub mod Climb
pub mod Suffixes
