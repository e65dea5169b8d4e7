pub use Rattle.lua_meaning.proofs.GsubLaws as LuaMeaningGsubLaws
pub mod Stays
