pub use Rattle.lua_iterators.proofs.Lines as LuaIteratorsLines
pub use Rattle.lua_replacing.proofs.Stays as LuaReplacingStays
pub mod Searches
pub mod Filled
pub mod Walked
pub mod Ends
pub mod GivenArguments
pub mod Sights
