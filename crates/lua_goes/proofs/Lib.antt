pub use Rattle.lua_slots.proofs.PageRunLess as PageRunLess
pub mod LowValues
pub mod LowLibrary
pub mod Falls
pub mod Events
pub mod Counts
