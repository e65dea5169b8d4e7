pub use Rattle.lua_grammar.proofs.FaultLaws as LuaGrammarFaultLaws
pub use Rattle.lua_lexer.proofs.Lists as LuaLexerLists
pub use Rattle.lua_syntax.proofs.WkBaseOptions as WkBaseOptions
pub mod pieces
pub mod levels
pub mod expressions
pub mod lists
pub mod functions
pub mod statements
