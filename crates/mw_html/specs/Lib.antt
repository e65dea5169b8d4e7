pub use Rattle.lua_heap.specs.Heap as LuaHeapHeap
pub use Rattle.lua_heap.specs.Table as LuaHeapTable
pub mod Names
pub mod Render
pub mod Plain
pub mod Sheet
pub mod Laws
