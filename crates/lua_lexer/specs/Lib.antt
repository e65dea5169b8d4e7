pub use Rattle.lua_syntax.specs.Tree as LuaSyntaxTree
pub use Rattle.lua_syntax.specs.WkBaseSpace as WkBaseSpace
pub use Rattle.lua_syntax.specs.declared.BinaryOp as LuaSyntaxDeclaredBinaryOp
pub use Rattle.lua_syntax.specs.declared.BinaryOp.TheVariants as LuaSyntaxDeclaredBinaryOpTheVariants
pub use Rattle.lua_syntax.specs.declared.UnaryOp as LuaSyntaxDeclaredUnaryOp
pub use Rattle.lua_syntax.specs.declared.UnaryOp.TheVariants as LuaSyntaxDeclaredUnaryOpTheVariants
pub mod Answers
pub mod Lexis
