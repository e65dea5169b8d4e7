pub use Rattle.lua_cells.proofs.LuaStackStay as LuaStackStay
pub use Rattle.lua_store.proofs.Later as LuaStoreLater
mod ConstantLaws
mod FinishedLaws
mod FormLaws
mod PartLaws
