pub use Rattle.lua_heap.proofs.Frames as LuaHeapFrames
pub use Rattle.lua_heap.proofs.GraphLaws as LuaHeapGraphLaws
pub use Rattle.lua_heap.proofs.Names as LuaHeapNames
pub use Rattle.lua_heap.proofs.Values as LuaHeapValues
pub mod Orders
pub mod Visits
pub mod Graphs
pub mod Copies
pub mod Standings
pub mod CopyMoves
pub mod Regained
pub mod WalkLaws
pub mod ExampleLaws
