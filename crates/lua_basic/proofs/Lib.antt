pub use Rattle.lua_meaning.proofs.HtmlRoots as LuaMeaningHtmlRoots
pub use Rattle.lua_store.proofs.Changes as LuaStoreChanges
pub use Rattle.lua_store.proofs.Later as LuaStoreLater
pub use Rattle.lua_store.proofs.Lists as LuaStoreLists
pub use Rattle.lua_store.proofs.LuaHeapBorders as LuaHeapBorders
pub mod Lists
pub mod Found
pub mod Basic
pub mod Counts
pub mod Markup
