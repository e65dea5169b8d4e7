pub use Rattle.lua_walk.proofs.CopyMoves as LuaWalkCopyMoves
pub use Rattle.lua_walk.proofs.LuaHeapGraphLaws as LuaHeapGraphLaws
pub use Rattle.lua_walk.proofs.Standings as LuaWalkStandings
pub use Rattle.mw_html.proofs.Renumbered as MwHtmlRenumbered
pub use Rattle.page_run.proofs.Enough as PageRunEnough
pub use Rattle.page_run.proofs.Less as PageRunLess
pub mod MeaningLaws
pub mod FrameLaws
pub mod HtmlRoots
pub mod GsubLaws
pub mod ExampleChargesLaws
pub mod ExampleCostsLaws
pub mod ExampleValuesLaws
pub mod ExampleStatementsLaws
pub mod ExampleFunctionsLaws
pub mod ExampleHandlersLaws
pub mod ExampleFramesLaws
pub mod ExampleModulesLaws
pub mod ExampleLibrariesLaws
pub mod ExampleGsubLaws
pub mod ExampleReplacingLaws
pub mod ExampleHtmlLaws
pub mod ExampleMarkupLaws
