pub use Rattle.lua_heap.proofs.Places as LuaHeapPlaces
pub mod Pieces
pub mod Nodes
pub mod Renumbered
