pub use Rattle.lua_in_place.specs.InPlace as LuaInPlaceInPlace
pub use Rattle.lua_in_place.specs.Laws as LuaInPlaceLaws
pub use Rattle.lua_state.specs.LuaGoesGoing as LuaGoesGoing
pub use Rattle.lua_state.specs.LuaStackDeclaredFocusFocus as LuaStackDeclaredFocusFocus
pub use Rattle.lua_state.specs.LuaStackDeclaredFocusFocusTheVariants as LuaStackDeclaredFocusFocusTheVariants
pub use Rattle.lua_state.specs.LuaStackDeclaredFocusJumpTheVariants as LuaStackDeclaredFocusJumpTheVariants
pub use Rattle.lua_state.specs.LuaStackDeclaredFrameFrame as LuaStackDeclaredFrameFrame
pub use Rattle.lua_state.specs.LuaStackDeclaredValuesGivenTheVariants as LuaStackDeclaredValuesGivenTheVariants
pub use Rattle.lua_state.specs.declared.state.State as LuaStateDeclaredStateState
pub mod Reads
pub mod Strides
pub mod Conditions
pub mod Next
