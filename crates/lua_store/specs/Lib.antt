pub use Rattle.lua_heap.specs.Heap as LuaHeapHeap
pub use Rattle.lua_heap.specs.Proc as LuaHeapProc
pub use Rattle.lua_heap.specs.Reach as LuaHeapReach
pub use Rattle.lua_heap.specs.Table as LuaHeapTable
pub use Rattle.lua_table.specs.Entries as LuaTableEntries
pub use Rattle.wk_base.specs.declared.left.Left as WkBaseDeclaredLeftLeft
pub mod Whole
pub mod ValueLaws
pub mod Seen
pub mod Envs
pub mod Parts
pub mod Texts
pub mod Laws
