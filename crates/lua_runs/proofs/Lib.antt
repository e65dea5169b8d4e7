pub mod Parts
pub mod Behind
pub mod Objects
pub mod Sums
pub mod Starting
