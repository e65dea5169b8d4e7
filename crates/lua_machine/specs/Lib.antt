pub use Rattle.lua_blocks.specs.LuaMeaningActs as LuaMeaningActs
pub use Rattle.lua_blocks.specs.LuaSlotsPoints as LuaSlotsPoints
pub use Rattle.lua_blocks.specs.LuaSlotsSlots as LuaSlotsSlots
pub use Rattle.lua_blocks.specs.LuaStackSeen as LuaStackSeen
pub use Rattle.lua_blocks.specs.LuaStateOf as LuaStateOf
pub use Rattle.lua_environment.specs.LuaStackDeclaredFocusFocus as LuaStackDeclaredFocusFocus
pub use Rattle.lua_environment.specs.LuaStackDeclaredFocusFocusTheVariants as LuaStackDeclaredFocusFocusTheVariants
pub use Rattle.lua_environment.specs.LuaStackOf as LuaStackOf
pub use Rattle.lua_home_laws.specs.LuaPointsClauses as LuaPointsClauses
pub use Rattle.lua_home_laws.specs.LuaPointsLaws as LuaPointsLaws
pub use Rattle.lua_rows.specs.LuaStateDeclaredStateState as LuaStateDeclaredStateState
pub use Rattle.lua_runs.specs.LuaStateWorlds as LuaStateWorlds
pub use Rattle.lua_store.specs.LuaHeapReach as LuaHeapReach
pub use Rattle.lua_store.specs.Parts as LuaStoreParts
pub use Rattle.lua_store.specs.Seen as LuaStoreSeen
pub mod Moved
pub mod Going
pub mod Events
