pub use Rattle.lua_number.specs.Numerals as LuaNumberNumerals
pub use Rattle.lua_number.specs.Whole as LuaNumberWhole
pub use Rattle.lua_number.specs.declared.arithmetic.NumberFault as LuaNumberDeclaredArithmeticNumberFault
pub use Rattle.lua_number.specs.declared.arithmetic.NumberFault.TheVariants as LuaNumberDeclaredArithmeticNumberFaultTheVariants
pub mod Directives
pub mod Layouts
pub mod Format
pub mod Lengths
pub mod Pieces
pub mod Written
