pub use Rattle.lua_reading.specs.LuaGrammarGrammar as LuaGrammarGrammar
pub use Rattle.lua_reading.specs.LuaLexerDeclaredTokenToken as LuaLexerDeclaredTokenToken
pub use Rattle.lua_reading.specs.LuaLexerLexis as LuaLexerLexis
pub use Rattle.lua_reading.specs.LuaSyntaxTree as LuaSyntaxTree
