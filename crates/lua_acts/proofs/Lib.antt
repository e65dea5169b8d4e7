pub use Rattle.lua_libs.proofs.Lines as LuaLibsLines
pub mod Parts
pub mod Lists
pub mod Refusing
pub mod Handlers
pub mod Levels
pub mod Next
pub mod Paying
pub mod Objects
