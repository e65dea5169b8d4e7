pub use Rattle.lua_strings.specs.LuaBasicArguments as LuaBasicArguments
pub use Rattle.lua_strings.specs.LuaBasicDeclaredStopStop as LuaBasicDeclaredStopStop
pub use Rattle.lua_strings.specs.LuaBasicDeclaredStopStopTheVariants as LuaBasicDeclaredStopStopTheVariants
pub use Rattle.lua_strings.specs.LuaBasicSeen as LuaBasicSeen
pub use Rattle.lua_strings.specs.LuaHeapDeclaredLibraryLibrary as LuaHeapDeclaredLibraryLibrary
pub use Rattle.lua_strings.specs.LuaHeapDeclaredLibraryLibraryTheVariants as LuaHeapDeclaredLibraryLibraryTheVariants
pub use Rattle.lua_strings.specs.LuaHeapHeap as LuaHeapHeap
pub use Rattle.lua_strings.specs.LuaHeapProc as LuaHeapProc
pub use Rattle.lua_strings.specs.LuaHeapValue as LuaHeapValue
pub use Rattle.lua_strings.specs.LuaMeaningArguments as LuaMeaningArguments
pub use Rattle.lua_strings.specs.LuaMeaningScope as LuaMeaningScope
pub use Rattle.lua_strings.specs.LuaMeaningValues as LuaMeaningValues
pub use Rattle.mw_ustrings.specs.Faults as MwUstringsFaults
pub use Rattle.mw_ustrings.specs.MwFramesCosts as MwFramesCosts
pub mod Held
pub mod Table
pub mod Examples
