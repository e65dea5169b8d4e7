pub use Rattle.lua_meaning.specs.PageRunDeclaredWhichWhichTheVariants as PageRunDeclaredWhichWhichTheVariants
pub mod Seen
pub mod Held
