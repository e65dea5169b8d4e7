pub use Rattle.lua_graph.specs.LuaHeapGraph as LuaHeapGraph
pub use Rattle.lua_graph.specs.Put as LuaGraphPut
pub use Rattle.lua_meaning.specs.Frames as LuaMeaningFrames
pub use Rattle.lua_meaning.specs.Home as LuaMeaningHome
pub use Rattle.lua_meaning.specs.LuaHeapDeclaredLibraryLibraryTheVariants as LuaHeapDeclaredLibraryLibraryTheVariants
pub mod Fields
pub mod Entries
pub mod Made
