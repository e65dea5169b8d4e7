pub mod StackLemmas
pub mod Stay
pub mod StayLaws
pub mod LevelLemmas
pub mod PlaceLemmas
pub mod Openings
pub mod Raises
