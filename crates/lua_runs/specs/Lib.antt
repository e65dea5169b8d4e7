pub use Rattle.lua_modules.specs.LuaStateWorlds as LuaStateWorlds
