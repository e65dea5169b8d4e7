-- THE MODULES THAT THE TEXTS OF A WIKI MEAN (Extension:Scribunto: the pages of namespace Module): of each title the tree of its text, or the
-- text's first fault (Lua, manual 8).
use Rattle.std.specs.Prelude.{◌≡◌, ℕ, ◌&&◌, if◌then◌else◌, List, [], ◌∷◌, length, Option, Some, None, Result, Ok, Err}
use Rattle.std.specs.Str.{bytes_eq}
use Rattle.wiki_pages.specs.WkBaseDeclaredTitleTitle.{Title}
use Rattle.lua_code.specs.WkBaseTitles.{is_module, title_text}
use Rattle.lua_parser.specs.LuaSyntaxDeclaredFaultFaultAt.{FaultAt}
use Rattle.lua_parser.specs.LuaSyntaxDeclaredFaultSyntaxFaultTheVariants.{At}
use Rattle.lua_grammar_laws.specs.LuaSyntaxTree.{Block}
use Rattle.lua_grammar_laws.specs.LuaLexerDeclaredTokenToken.{Token}
use Rattle.lua_grammar_laws.specs.LuaLexerLexis.{Lexes}
use Rattle.lua_grammar_laws.specs.LuaGrammarGrammar.{IsChunk}
use Rattle.lua_parser.specs.Chunks.{IsParsed}
use Rattle.lua_code.specs.LuaMeaningWorld.{Module, Modules}
use Rattle.wiki_texts.specs.declared.raw.RawPage.{RawPage}

-- the text of the module whose title is written so, if there is one; the first one counts (a wiki has no second one)
abbrev pub module_text : List RawPage → List ℕ → Option (List ℕ)
module_text [] name = None
module_text (page ∷ pages) name =
    if is_module page.title.ns && bytes_eq name (title_text page.title) then Some page.bytes else module_text pages name

-- the tree that a text spells, or its first fault; a text has one of the two
abbrev pub IsTree : List ℕ → Result Block FaultAt → Type 0
IsTree text (Ok tree) = (tokens : List Token) × Lexes text tokens × IsChunk tokens tree
IsTree text (Err fault) = IsParsed (Err (At fault)) text

abbrev pub IsMeantBy : Option (List ℕ) → Option Module → Type 0
IsMeantBy None None = Unit {0}
IsMeantBy (Some text) (Some m) = (m.size ≡ length text) × IsTree text m.chunk
IsMeantBy _ _ = ⊥

abbrev pub AreMeantBy : List RawPage → Modules → Type 0
AreMeantBy pages modules = (title : Title) → IsMeantBy (module_text pages (title_text title)) (modules title)
