pub use Rattle.lua_graph.proofs.LuaStoreLater as LuaStoreLater
pub use Rattle.lua_graph.proofs.LuaStoreLists as LuaStoreLists
pub use Rattle.lua_state.proofs.LuaStackStay as LuaStackStay
pub use Rattle.page_meaning.proofs.OutcomeLaws as PageMeaningOutcomeLaws
pub use Rattle.page_points.proofs.Apart as PagePointsApart
pub use Rattle.page_points.proofs.Expansions as PagePointsExpansions
pub use Rattle.page_points.proofs.Loads as PagePointsLoads
pub use Rattle.page_points.proofs.Machines as PagePointsMachines
pub use Rattle.page_points.proofs.Moves as PagePointsMoves
pub mod KeepLaws
pub mod MachineEnds
pub mod NameLaws
pub mod Numbering
