pub use Rattle.lua_calls.specs.LuaHeapDeclaredLibraryLibrary as LuaHeapDeclaredLibraryLibrary
pub use Rattle.lua_calls.specs.LuaStateDeclaredTurnTurn as LuaStateDeclaredTurnTurn
pub use Rattle.lua_turns.specs.LuaGoesGoing as LuaGoesGoing
pub use Rattle.lua_turns.specs.LuaSlotsEnact as LuaSlotsEnact
pub use Rattle.lua_turns.specs.LuaStackDeclaredFrameEndingTheVariants as LuaStackDeclaredFrameEndingTheVariants
pub use Rattle.lua_turns.specs.LuaStackDeclaredFrameFrame as LuaStackDeclaredFrameFrame
pub use Rattle.lua_turns.specs.LuaStackDeclaredFrameFrameTheVariants as LuaStackDeclaredFrameFrameTheVariants
pub use Rattle.lua_turns.specs.LuaStackDeclaredFrameInExpressionTheVariants as LuaStackDeclaredFrameInExpressionTheVariants
pub use Rattle.lua_turns.specs.LuaStateDeclaredStateState as LuaStateDeclaredStateState
pub use Rattle.lua_turns.specs.LuaStateDeclaredTurnTurnTheVariants as LuaStateDeclaredTurnTurnTheVariants
pub use Rattle.lua_turns.specs.LuaStridesNext as LuaStridesNext
pub use Rattle.lua_turns.specs.LuaStridesStrides as LuaStridesStrides
pub use Rattle.lua_turns.specs.Rows as LuaTurnsRows
pub mod Ready
pub mod Rows
pub mod Begins
pub mod Made
pub mod Declaring
