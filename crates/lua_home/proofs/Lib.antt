pub use Rattle.lua_graph.proofs.Distinct as LuaGraphDistinct
pub use Rattle.lua_graph.proofs.Joining as LuaGraphJoining
pub use Rattle.lua_graph.proofs.Places as LuaGraphPlaces
pub use Rattle.lua_graph.proofs.Steps as LuaGraphSteps
pub mod Whole
