pub mod WalkLemmas
pub mod Plain
pub mod Prices
pub mod Copies
pub mod HeadLemmas
