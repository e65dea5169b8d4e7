pub use Rattle.lua_strings.specs.Table as LuaStringsTable
pub mod Found
pub mod Nodes
pub mod Settled
pub mod Table
pub mod Setters
pub mod Tabled
