pub use Rattle.lua_code.specs.LuaSlotsErrors as LuaSlotsErrors
pub use Rattle.lua_code.specs.LuaSlotsPoints as LuaSlotsPoints
pub use Rattle.lua_code.specs.LuaSlotsSlots as LuaSlotsSlots
pub use Rattle.lua_store.specs.declared.ids.CellId as LuaStoreDeclaredIdsCellId
pub use Rattle.lua_store.specs.declared.ids.ClosureId as LuaStoreDeclaredIdsClosureId
pub use Rattle.lua_store.specs.declared.ids.TextId as LuaStoreDeclaredIdsTextId
pub use Rattle.page_run.specs.State as PageRunState
pub mod Lists
pub mod FrameCode
pub mod Seen
pub mod Of
pub mod Levels
pub mod Places
pub mod Raised
pub mod Laws
