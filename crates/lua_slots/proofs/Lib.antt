pub use Rattle.lua_meaning.proofs.GsubLaws as LuaMeaningGsubLaws
pub use Rattle.lua_meaning.proofs.LuaHeapGraphLaws as LuaHeapGraphLaws
pub use Rattle.lua_meaning.proofs.PageRunLess as PageRunLess
pub mod CodeLaws
pub mod QuietValues
pub mod QuietLibrary
pub mod Paid
pub mod Charges
pub mod ExampleCodeRuns
pub mod ExampleCallsRuns
