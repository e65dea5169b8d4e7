pub use Rattle.lua_store.specs.LuaHeapTable as LuaHeapTable
pub use Rattle.lua_store.specs.Parts as LuaStoreParts
pub use Rattle.lua_store.specs.Seen as LuaStoreSeen
pub use Rattle.lua_store.specs.declared.ids.TextId as LuaStoreDeclaredIdsTextId
pub use Rattle.lua_store.specs.declared.value.Value as LuaStoreDeclaredValueValue
pub use Rattle.lua_store.specs.declared.value.Value.TheVariants as LuaStoreDeclaredValueValueTheVariants
pub use Rattle.lua_walk.specs.Data as LuaWalkData
pub use Rattle.lua_walk.specs.Laws as LuaWalkLaws
pub use Rattle.lua_walk.specs.LuaHeapGraph as LuaHeapGraph
pub use Rattle.lua_walk.specs.LuaHeapHeap as LuaHeapHeap
pub mod Copied
pub mod Plain
pub mod Put
pub mod Taken
