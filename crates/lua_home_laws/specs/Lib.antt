pub use Rattle.lua_points.specs.Clauses as LuaPointsClauses
pub use Rattle.lua_points.specs.Laws as LuaPointsLaws
pub use Rattle.lua_points.specs.LuaGoesLaws as LuaGoesLaws
pub use Rattle.lua_points.specs.LuaGoesWeight as LuaGoesWeight
pub use Rattle.lua_points.specs.LuaMeaningStart as LuaMeaningStart
pub mod Laws
