pub use Rattle.lua_agree.proofs.LuaLibraryAgreeLibraryLaws as LuaLibraryAgreeLibraryLaws
pub use Rattle.lua_goes.proofs.Counts as LuaGoesCounts
pub use Rattle.lua_goes.proofs.Events as LuaGoesEvents
pub mod Images
pub mod Standings
pub mod Events
pub mod Goings
pub mod Points
pub mod Calls
pub mod Starts
pub mod Answers
pub mod Loads
pub mod Tallies
pub mod Allowances
pub mod Clauses
pub mod Chains
pub mod Families
