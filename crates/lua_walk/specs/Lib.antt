pub use Rattle.lua_heap.specs.Graph as LuaHeapGraph
pub use Rattle.lua_heap.specs.Heap as LuaHeapHeap
pub use Rattle.lua_heap.specs.LuaTableEntries as LuaTableEntries
pub use Rattle.lua_heap.specs.Proc as LuaHeapProc
pub use Rattle.lua_heap.specs.Reach as LuaHeapReach
pub use Rattle.lua_heap.specs.Related as LuaHeapRelated
pub use Rattle.lua_heap.specs.Value as LuaHeapValue
pub use Rattle.lua_heap.specs.declared.library.Library as LuaHeapDeclaredLibraryLibrary
pub use Rattle.lua_heap.specs.declared.library.Library.TheVariants as LuaHeapDeclaredLibraryLibraryTheVariants
pub mod Order
pub mod Data
pub mod Copy
pub mod Examples
pub mod Laws
