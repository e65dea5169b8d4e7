pub use Rattle.lua_syntax.specs.FaultTexts as LuaSyntaxFaultTexts
pub use Rattle.lua_syntax.specs.declared.fault.FaultAt as LuaSyntaxDeclaredFaultFaultAt
pub use Rattle.lua_syntax.specs.declared.fault.SyntaxFault.TheVariants as LuaSyntaxDeclaredFaultSyntaxFaultTheVariants
pub mod Answers
pub mod Examples
pub mod Items
pub mod Layout
