pub use Rattle.lua_slots.proofs.Charges as LuaSlotsCharges
pub use Rattle.lua_slots.proofs.LuaHeapGraphLaws as LuaHeapGraphLaws
pub use Rattle.lua_slots.proofs.LuaMeaningGsubLaws as LuaMeaningGsubLaws
pub use Rattle.lua_slots.proofs.PageRunLess as PageRunLess
pub mod Views
mod HeldLaws
