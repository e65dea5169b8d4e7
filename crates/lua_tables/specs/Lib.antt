pub use Rattle.lua_basic.specs.LuaHeapDeclaredLibraryLibrary as LuaHeapDeclaredLibraryLibrary
pub use Rattle.lua_basic.specs.LuaHeapDeclaredLibraryLibraryTheVariants as LuaHeapDeclaredLibraryLibraryTheVariants
pub use Rattle.lua_basic.specs.LuaMeaningArguments as LuaMeaningArguments
pub use Rattle.lua_basic.specs.LuaMeaningLibraries as LuaMeaningLibraries
pub use Rattle.lua_basic.specs.LuaStoreDeclaredIdsTextId as LuaStoreDeclaredIdsTextId
pub use Rattle.lua_basic.specs.LuaStoreDeclaredValueValue as LuaStoreDeclaredValueValue
pub use Rattle.lua_basic.specs.LuaStoreDeclaredValueValueTheVariants as LuaStoreDeclaredValueValueTheVariants
pub use Rattle.lua_basic.specs.LuaStoreParts as LuaStoreParts
pub use Rattle.lua_basic.specs.LuaStoreSeen as LuaStoreSeen
pub use Rattle.lua_basic.specs.Seen as LuaBasicSeen
pub use Rattle.lua_basic.specs.declared.stop.Stop as LuaBasicDeclaredStopStop
pub use Rattle.lua_basic.specs.declared.stop.Stop.TheVariants as LuaBasicDeclaredStopStopTheVariants
pub mod Table
pub mod Paying
pub mod Kinds
pub mod Walked
pub mod Moves
pub mod Counted
pub mod Repeated
