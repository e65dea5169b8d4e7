pub use Rattle.lua_basic.proofs.Found as LuaBasicFound
pub use Rattle.lua_basic.proofs.Lists as LuaBasicLists
pub use Rattle.lua_basic.proofs.LuaMeaningHtmlRoots as LuaMeaningHtmlRoots
pub use Rattle.lua_basic.proofs.LuaStoreLater as LuaStoreLater
pub use Rattle.lua_basic.proofs.Markup as LuaBasicMarkup
pub mod Lines
pub mod Taken
pub mod Given
pub mod Numbered
pub mod Lengths
pub mod Sought
pub mod Rows
