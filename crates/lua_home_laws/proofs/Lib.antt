pub use Rattle.lua_points.proofs.Allowances as LuaPointsAllowances
pub use Rattle.lua_points.proofs.Clauses as LuaPointsClauses
pub use Rattle.lua_points.proofs.LuaGoesCounts as LuaGoesCounts
pub use Rattle.lua_points.proofs.LuaGoesEvents as LuaGoesEvents
pub mod Moved
pub mod Homes
