use Rattle.std.proofs.Common.{refl}
use Rattle.lua_reading.specs.LuaGrammarDeclaredTokenClassTheVariants.{Semicolon}
use Rattle.lua_reading.proofs.statements.Begins.{behind_word}
use Rattle.lua_reading.proofs.statements.PlainExits.{read_is}
use Rattle.lua_parser.proofs.blocks.behind.Goals as goal

pub returns-in-Semicolon-clause-within : goal.returns-in-Semicolon-clause-within
returns-in-Semicolon-clause-within c = behind_word _ _ Semicolon c.requires.ended c.requires.inside (read_is c.class_at.ensures c.in-Semicolon.is) refl
