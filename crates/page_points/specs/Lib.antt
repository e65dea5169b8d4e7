pub use Rattle.lua_points.specs.Families as LuaPointsFamilies
pub use Rattle.lua_points.specs.Told as LuaPointsTold
pub mod Places
pub mod Machines
pub mod Loads
pub mod Apart
pub mod Laws
