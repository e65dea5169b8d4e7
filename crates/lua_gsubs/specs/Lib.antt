pub use Rattle.lua_iterators.specs.Table as LuaIteratorsTable
pub use Rattle.lua_replacing.specs.LuaMeaningGsub as LuaMeaningGsub
pub use Rattle.lua_replacing.specs.LuaStringWalk as LuaStringWalk
pub use Rattle.lua_replacing.specs.Seen as LuaReplacingSeen
pub use Rattle.lua_replacing.specs.declared.far.Far as LuaReplacingDeclaredFarFar
pub use Rattle.lua_replacing.specs.declared.job.Replacer as LuaReplacingDeclaredJobReplacer
pub use Rattle.lua_replacing.specs.declared.job.Replacing as LuaReplacingDeclaredJobReplacing
pub mod Table
pub mod Given
pub mod Met
pub mod Parts
pub mod Begun
pub mod Sought
pub mod Resumed
