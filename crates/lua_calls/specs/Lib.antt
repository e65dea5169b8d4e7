pub use Rattle.lua_gsubs.specs.Begun as LuaGsubsBegun
pub use Rattle.lua_gsubs.specs.LuaMeaningGsub as LuaMeaningGsub
pub use Rattle.lua_gsubs.specs.Table as LuaGsubsTable
pub use Rattle.lua_gsubs.specs.declared.beginning.Begun as LuaGsubsDeclaredBeginningBegun
pub use Rattle.lua_gsubs.specs.declared.beginning.Begun.TheVariants as LuaGsubsDeclaredBeginningBegunTheVariants
pub use Rattle.lua_modules.specs.LuaStateDeclaredTurnTurn as LuaStateDeclaredTurnTurn
pub use Rattle.lua_modules.specs.LuaStateMakes as LuaStateMakes
pub use Rattle.lua_modules.specs.MwFramesScenes as MwFramesScenes
pub use Rattle.lua_tables.specs.LuaBasicDeclaredStopStop as LuaBasicDeclaredStopStop
pub use Rattle.lua_tables.specs.LuaBasicSeen as LuaBasicSeen
pub use Rattle.lua_tables.specs.LuaHeapDeclaredLibraryLibrary as LuaHeapDeclaredLibraryLibrary
pub use Rattle.lua_tables.specs.LuaMeaningLibraries as LuaMeaningLibraries
pub use Rattle.lua_tables.specs.LuaStoreDeclaredValueValueTheVariants as LuaStoreDeclaredValueValueTheVariants
pub mod Table
pub mod Ends
pub mod Answers
