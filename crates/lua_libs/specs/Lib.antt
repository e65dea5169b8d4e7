pub use Rattle.lua_basic.specs.Arguments as LuaBasicArguments
pub use Rattle.lua_basic.specs.LuaHeapDeclaredLibraryLibraryTheVariants as LuaHeapDeclaredLibraryLibraryTheVariants
pub use Rattle.lua_basic.specs.LuaMeaningArguments as LuaMeaningArguments
pub use Rattle.lua_basic.specs.Seen as LuaBasicSeen
pub mod Table
