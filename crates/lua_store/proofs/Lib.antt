pub use Rattle.lua_heap.proofs.Borders as LuaHeapBorders
pub use Rattle.lua_heap.proofs.Places as LuaHeapPlaces
pub mod Lists
pub mod EntryMaps
pub mod Equal
pub mod Later
pub mod TextLemmas
pub mod Changes
pub mod Walks
pub mod There
pub mod AtPlaces
pub mod Keys
