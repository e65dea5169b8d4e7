pub use Rattle.lua_stack.specs.Of as LuaStackOf
pub use Rattle.lua_stack.specs.declared.focus.Focus as LuaStackDeclaredFocusFocus
pub use Rattle.lua_stack.specs.declared.focus.Focus.TheVariants as LuaStackDeclaredFocusFocusTheVariants
pub use Rattle.lua_stack.specs.declared.focus.Jump as LuaStackDeclaredFocusJump
pub use Rattle.lua_stack.specs.declared.focus.Work as LuaStackDeclaredFocusWork
pub use Rattle.lua_stack.specs.declared.frame.Thing.TheVariants as LuaStackDeclaredFrameThingTheVariants
pub use Rattle.lua_stack.specs.declared.values.Given.TheVariants as LuaStackDeclaredValuesGivenTheVariants
pub mod Names
