pub use Rattle.lua_basic.proofs.Found as LuaBasicFound
pub use Rattle.lua_basic.proofs.LuaStoreLater as LuaStoreLater
pub mod Lines
pub mod Checked
pub mod Taken
pub mod Put
pub mod Reading
pub mod Parts
pub mod Orders
pub mod Listed
pub mod Moved
pub mod Examples
pub mod Repeats
