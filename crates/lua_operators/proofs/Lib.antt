pub use Rattle.lua_arms.proofs.Counts as LuaArmsCounts
pub use Rattle.lua_arms.proofs.LuaStackRaises as LuaStackRaises
pub use Rattle.lua_arms.proofs.LuaStackStay as LuaStackStay
pub use Rattle.lua_arms.proofs.LuaStoreLater as LuaStoreLater
pub mod Orders
pub mod Charges
pub mod Joins
