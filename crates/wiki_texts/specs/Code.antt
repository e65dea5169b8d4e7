-- CODE OF THE MODULES that the texts of a wiki mean.
use Rattle.std.specs.Prelude.{◌≡◌, ℕ, true, List, [], ◌∷◌, ◌++◌, length, Option, Some, None, is_some, Result, Ok, Err}
use Rattle.wiki_pages.specs.WkBaseDeclaredTitleTitle.{Title}
use Rattle.lua_code.specs.WkBaseTitles.{is_module}
use Rattle.lua_parser.specs.LuaSyntaxDeclaredFaultFaultAt.{FaultAt}
use Rattle.lua_grammar_laws.specs.LuaSyntaxTree.{Block}
use Rattle.lua_code.specs.LuaSlotsCode.{Protos, CModule}
use Rattle.lua_resolve.specs.LuaSlotsIsCode.{IsProtos}
use Rattle.lua_code.specs.Held.{TitledModules, find_module, modules_seen}
use Rattle.wiki_texts.specs.declared.raw.RawPage.{RawPage}
use Rattle.wiki_texts.specs.Pages.{is_held}
use Rattle.wiki_texts.specs.Modules.{module_text, IsTree}

-- code of the tree that a text spells, or its first fault
abbrev pub IsCodeOf : List ℕ → Result Protos FaultAt → Type 0
IsCodeOf text (Ok code) = (tree : Block) × (IsTree text (Ok tree)) × IsProtos code tree
IsCodeOf text (Err fault) = IsTree text (Err fault)

abbrev pub IsCodeOfModule : Option (List ℕ) → Option CModule → Type 0
IsCodeOfModule None None = Unit {0}
IsCodeOfModule (Some text) (Some m) = (m.size ≡ length text) × IsCodeOf text m.code
IsCodeOfModule _ _ = ⊥

-- of each module its code, and of each page of namespace Module one module
pub record AreCodeOf (pages : List RawPage) (held : TitledModules) : Type 0 where
  pub code : (name : List ℕ) → IsCodeOfModule (module_text pages name) (modules_seen held name)
  pub names : (title : Title) → is_module title.ns ≡ true → is_some (find_module held title) ≡ is_held pages title

-- with one page more
abbrev pub Adds : RawPage → TitledModules → TitledModules → Type 0
Adds page held more = (earlier : List RawPage) → AreCodeOf earlier held → AreCodeOf (earlier ++ page ∷ []) more
