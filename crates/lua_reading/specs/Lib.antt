pub use Rattle.lua_grammar.specs.Grammar as LuaGrammarGrammar
pub use Rattle.lua_grammar.specs.LuaNumberNumerals as LuaNumberNumerals
pub use Rattle.lua_grammar.specs.Tokens as LuaGrammarTokens
pub use Rattle.lua_grammar.specs.declared.Context as LuaGrammarDeclaredContext
pub use Rattle.lua_grammar.specs.declared.TokenClass as LuaGrammarDeclaredTokenClass
pub use Rattle.lua_grammar.specs.declared.TokenClass.TheVariants as LuaGrammarDeclaredTokenClassTheVariants
pub use Rattle.lua_lexer.specs.Lexis as LuaLexerLexis
pub use Rattle.lua_lexer.specs.declared.token.Token as LuaLexerDeclaredTokenToken
pub use Rattle.lua_syntax.specs.Tree as LuaSyntaxTree
pub use Rattle.lua_syntax.specs.declared.BinaryOp as LuaSyntaxDeclaredBinaryOp
pub use Rattle.lua_syntax.specs.declared.UnaryOp as LuaSyntaxDeclaredUnaryOp
pub use Rattle.lua_syntax.specs.declared.UnaryOp.TheVariants as LuaSyntaxDeclaredUnaryOpTheVariants
pub mod Parsing
pub mod Answers
pub mod StatAnswers
